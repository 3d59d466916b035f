-- Encoding and decoding undo each other.
use Prim.Native.Nat.{ℕ, zero, suc, ◌+◌, ◌*◌, ◌^◌, ◌≤◌, ◌<◌}
use mathlib.Core.Path.{◌≡◌, refl, sym, ap, ◌∙◌}
use mathlib.Core.List.{List, [], ◌∷◌, ◌++◌, append_assoc, append-nil}
use native.Mathlib.Omega.{arith}
use lib.ListN.{length, get_or, take, drop, length-append}
use lib.Seq.{take_at, drop_at, drop-drop, take_all, take-add}
use Rattle.buffer.specs.Buffer.{Bytes}
use Rattle.buffer.specs.Numbers.{le, number}
use Rattle.buffer.proofs.Numbers.{length-le, number-le, le-part}
use Rattle.suite_hash.specs.declared.running.Running.{Running}
use Rattle.session.specs.declared.Session.{Session}
use Rattle.encoding.specs.Words.{le_words, words}
use Rattle.encoding.specs.Encoding.{session_bytes, part, encoded_numbers, encoded_running, encoded_places, encoded, decoded_running, decoded}
use Rattle.encoding.specs.Inverse.{SessionFits, DecodesWhatItEncodes, EncodesWhatItDecodes}
use Rattle.encoding.proofs.Laws.{length-le_words, length-numbers}

-- two parts that meet
join : (bs : List ℕ) (at n m : ℕ) → part at n bs ++ part (at + n) m bs ≡ part at (n + m) bs
join bs at n m =
    sym (take-add n m (drop at bs) ∙ ap (λ (l : List ℕ). take n (drop at bs) ++ take m l) (drop-drop n at bs))

words-part : (n at : ℕ) (bs : List ℕ) → at + 8 * n ≤ length bs → Bytes bs → le_words (words n (drop at bs)) ≡ part at (8 * n) bs
unfolding le_words words
words-part zero at bs h y = refl
words-part (suc n) at bs h y =
    let e : 8 + 8 * n ≡ 8 * suc n = omega arith in
    let w : le_words (words n (drop 8 (drop at bs))) ≡ part (at + 8) (8 * n) bs =
    ap (λ (l : List ℕ). le_words (words n l)) (drop-drop 8 at bs) ∙ words-part n (at + 8) bs (omega arith) y in
    rw (le-part 8 at bs (omega arith) y, w) (join bs at 8 (8 * n) ∙ ap (λ (k : ℕ). part at k bs) e)

module _ (bs : List ℕ) (n : length bs ≡ session_bytes) (y : Bytes bs) where
  numbers_back : encoded_numbers (decoded bs) ≡ part 0 16 bs
  unfolding encoded_numbers decoded
  numbers_back =
      rw (
        le-part 2 0 bs (omega arith) y,
        le-part 1 2 bs (omega arith) y,
        le-part 1 3 bs (omega arith) y,
        le-part 2 4 bs (omega arith) y,
        le-part 2 6 bs (omega arith) y,
        le-part 4 8 bs (omega arith) y,
        le-part 4 12 bs (omega arith) y,
      )
      (rw (join bs 8 4 4, join bs 6 2 8, join bs 4 2 10, join bs 3 1 12, join bs 2 1 13) (join bs 0 2 14))

  running_back : encoded_running (decoded bs).transcript ≡ part 16 200 bs
  unfolding encoded_running decoded decoded_running
  running_back = rw (words-part 8 16 bs (omega arith) y, le-part 8 208 bs (omega arith) y, join bs 80 128 8) (join bs 16 64 136)

  places_back : encoded_places (decoded bs) ≡ part 216 480 bs
  unfolding encoded_places decoded
  places_back =
      rw (
        join bs 600 48 48,
        join bs 552 48 96,
        join bs 504 48 144,
        join bs 456 48 192,
        join bs 408 48 240,
        join bs 360 48 288,
        join bs 312 48 336,
        join bs 264 48 384,
      ) (join bs 216 48 432)

pub encodes_what_it_decodes : EncodesWhatItDecodes
unfolding encoded
encodes_what_it_decodes bs n y =
    rw (numbers_back bs n y, running_back bs n y, places_back bs n y, join bs 16 200 480)
    (join bs 0 16 680 ∙ take_all 696 bs (omega arith))

-- a part of a list that is put together: where it stands, and past what stands before it
here : (p r : List ℕ) (n : ℕ) → length p ≡ n → part 0 n (p ++ r) ≡ p
here p r n e = take_at p r n e

past : (p r : List ℕ) (k at n : ℕ) → length p ≡ k → part (k + at) n (p ++ r) ≡ part at n r
past p r k at n e = ap (take n) (sym (drop-drop at k (p ++ r)) ∙ ap (drop at) (drop_at p r k e))

words_back : (n : ℕ) (ws r : List ℕ) → length ws ≡ n → ((i : ℕ) → get_or ws i 0 < 2 ^ 64) → words n (le_words ws ++ r) ≡ ws
unfolding words le_words
words_back zero [] r l h = refl
words_back (suc n) [] r l h = absurd (omega arith)
words_back zero (w ∷ ws) r l h = absurd (omega arith)
words_back (suc n) (w ∷ ws) r l h =
    let s : w < 2 ^ 64 = h 0 in
    let g = append_assoc (le 8 w) (le_words ws) r in
    rw (g, take_at (le 8 w) (le_words ws ++ r) 8 (length-le 8 w), drop_at (le 8 w) (le_words ws ++ r) 8 (length-le 8 w), number-le 8 w s)
    (ap (λ (l : List ℕ). w ∷ l) (words_back n ws r (omega arith) (λ i. h (suc i))))

-- parts of 48 bytes, one behind the other
joined : List (List ℕ) → List ℕ
joined [] = []
joined (p ∷ ps) = p ++ joined ps

Each48 : List (List ℕ) → Type 0
Each48 [] = Unit
Each48 (p ∷ ps) = (length p ≡ 48) × Each48 ps

part_of : (ps : List (List ℕ)) → Each48 ps → (i : ℕ) → i < length ps → part (i * 48) 48 (joined ps) ≡ get_or ps i []
unfolding joined Each48
part_of [] e i h = absurd (omega arith)
part_of (p ∷ ps) e zero h = here p (joined ps) 48 e.0
part_of (p ∷ ps) e (suc i) h =
    let k : suc i * 48 ≡ 48 + i * 48 = omega arith in
    ap (λ (j : ℕ). part j 48 (p ++ joined ps)) k ∙ past p (joined ps) 48 (i * 48) 48 e.0 ∙ part_of ps e.1 i (omega arith)

module _ (s : Session) (f : SessionFits s) where
  h : Running
  h = s.transcript

  behind-numbers : List ℕ
  behind-numbers = encoded_running h ++ encoded_places s

  behind-words : List ℕ
  behind-words = h.block ++ (le 8 h.count ++ encoded_places s)

  places : List (List ℕ)
  places = s.chain ∷ s.binder_key ∷ s.client_early ∷ s.early_exporter ∷ s.client_handshake ∷ s.server_handshake ∷ s.client_application ∷ s.server_application ∷ s.exporter ∷ s.resumption ∷ []

  places_joined : encoded_places s ≡ joined places
  unfolding encoded_places joined places
  places_joined = rw append-nil refl

  words_then : behind-numbers ≡ le_words h.state ++ behind-words
  unfolding behind-numbers behind-words encoded_running h
  words_then = simp append_assoc

  size_of_words : length (le_words h.state) ≡ 64
  unfolding h
  size_of_words = let e = f.transcript.state in length-le_words h.state ∙ omega arith

  size_of_running : length (encoded_running h) ≡ 200
  unfolding encoded_running h
  size_of_running = let e = f.transcript.block in rw (length-append, size_of_words, length-append, length-le) (omega arith)

  state_back : words 8 (drop 16 (encoded s)) ≡ s.transcript.state
  unfolding encoded behind-numbers h
  state_back =
      ap (words 8) (drop_at (encoded_numbers s) behind-numbers 16 (length-numbers s) ∙ words_then)
      ∙ words_back 8 h.state behind-words f.transcript.state f.transcript.words

  past_numbers : (at n : ℕ) → part (16 + at) n (encoded s) ≡ part at n behind-numbers
  unfolding encoded behind-numbers h
  past_numbers at n = past (encoded_numbers s) behind-numbers 16 at n (length-numbers s)

  past_words : (at n : ℕ) → part (16 + (64 + at)) n (encoded s) ≡ part at n behind-words
  past_words at n =
      past_numbers (64 + at) n ∙ ap (part (64 + at) n) words_then ∙ past (le_words h.state) behind-words 64 at n size_of_words

  block_back : part 80 128 (encoded s) ≡ s.transcript.block
  unfolding behind-words h
  block_back = past_words 0 128 ∙ here h.block (le 8 h.count ++ encoded_places s) 128 f.transcript.block

  count_back : number (part 208 8 (encoded s)) ≡ s.transcript.count
  unfolding behind-words h
  count_back =
      ap number (past_words 128 8 ∙ past h.block (le 8 h.count ++ encoded_places s) 128 0 8 f.transcript.block
      ∙ here (le 8 h.count) (encoded_places s) 8 (length-le 8 h.count))
      ∙ number-le 8 h.count f.transcript.count

  place_back : (i : ℕ) → i < 10 → part (16 + (200 + i * 48)) 48 (encoded s) ≡ get_or places i []
  unfolding behind-numbers places Each48
  place_back i l =
      past_numbers (200 + i * 48) 48 ∙ past (encoded_running h) (encoded_places s) 200 (i * 48) 48 size_of_running
      ∙ ap (part (i * 48) 48) places_joined
      ∙ part_of places (f.chain, (f.binder_key, (f.client_early, (f.early_exporter, (f.client_handshake, (f.server_handshake, (f.client_application, (f.server_application, (f.exporter, (f.resumption, tt)))))))))) i l

  size_of_places : length (encoded_places s) ≡ 480
  unfolding encoded_places
  size_of_places = simp (length-append, f.chain, f.binder_key, f.client_early, f.early_exporter, f.client_handshake, f.server_handshake, f.client_application, f.server_application, f.exporter, f.resumption) refl

  size : length (encoded s) ≡ session_bytes
  unfolding encoded h
  size = simp (length-append, length-numbers, size_of_running, size_of_places) refl

  suite_back : number (part 0 2 (encoded s)) ≡ s.suite
  unfolding encoded encoded_numbers le
  suite_back = number-le 2 s.suite f.suite

  kind_back : number (part 2 1 (encoded s)) ≡ s.kind
  unfolding encoded encoded_numbers le
  kind_back = number-le 1 s.kind f.kind

  early_back : number (part 3 1 (encoded s)) ≡ s.early
  unfolding encoded encoded_numbers le
  early_back = number-le 1 s.early f.early

  point_back : number (part 4 2 (encoded s)) ≡ s.point
  unfolding encoded encoded_numbers le
  point_back = number-le 2 s.point f.point

  stage_back : number (part 6 2 (encoded s)) ≡ s.stage
  unfolding encoded encoded_numbers le
  stage_back = number-le 2 s.stage f.stage

  client_back : number (part 8 4 (encoded s)) ≡ s.client_updates
  unfolding encoded encoded_numbers le
  client_back = number-le 4 s.client_updates f.client_updates

  server_back : number (part 12 4 (encoded s)) ≡ s.server_updates
  unfolding encoded encoded_numbers le
  server_back = number-le 4 s.server_updates f.server_updates

  all_back : decoded (encoded s) ≡ s
  unfolding decoded decoded_running places
  all_back =
      rw (state_back, block_back, count_back, place_back 0 (omega arith), place_back 1 (omega arith), place_back 2 (omega arith), place_back 3 (omega arith), place_back 4 (omega arith), place_back 5 (omega arith), place_back 6 (omega arith), place_back 7 (omega arith), place_back 8 (omega arith), place_back 9 (omega arith))
      (rw (suite_back, kind_back, early_back, point_back, stage_back, client_back, server_back) refl)

pub decodes_what_it_encodes : DecodesWhatItEncodes
decodes_what_it_encodes s f = (size s f, all_back s f)
