-- Laws of a run of writes.
use Prim.Native.Nat.{ℕ, ◌+◌, ◌*◌, ◌%◌, ◌≤◌, ◌<◌}
use mathlib.Core.Bool.{cond}
use mathlib.Core.Path.{◌≡◌, refl, sym, ap, ◌∙◌, subst}
use mathlib.Core.List.{List, [], ◌∷◌, ◌++◌, append_assoc, append-nil}
use native.Mathlib.Numerals.{add-one}
use native.Mathlib.Omega.{arith}
use lib.ListN.{length, get_or, take, drop, length-append, length-take, take-append-drop, drop_of_length-le}
use lib.Dec.{eqb}
use borrow.Author.Tests.{eq-eqb}
use lib.Seq.{take_at, drop_at, drop-drop, take-suc, take_all}
use Rattle.buffer.specs.Buffer.{overwrite, after, behind}
use Rattle.buffer.specs.Numbers.{le}
use Rattle.buffer.proofs.Numbers.{length-le}
use Rattle.buffer.proofs.Laws.{after-fits, behind-fits, length-overwrite}
use Rattle.suite_hash.specs.declared.running.Running.{Running}
use Rattle.session.specs.declared.Session.{Session}
use Rattle.encoding.specs.Words.{le_words}
use Rattle.encoder.specs.Over.{Over}
use Rattle.encoding.specs.Encoding.{encoded_numbers, encoded_running, encoded_places, encoded, session_bytes}
use Rattle.encoding.proofs.Laws.{le_words-snoc, to_le}
use Rattle.std.specs.Int.{bytes_low_first}

-- each place of a session has 48 bytes
pub record Places (s : Session) : Type 0 where
  pub chain : length s.chain ≡ 48
  pub binder_key : length s.binder_key ≡ 48
  pub client_early : length s.client_early ≡ 48
  pub early_exporter : length s.early_exporter ≡ 48
  pub client_handshake : length s.client_handshake ≡ 48
  pub server_handshake : length s.server_handshake ≡ 48
  pub client_application : length s.client_application ≡ 48
  pub server_application : length s.server_application ≡ 48
  pub exporter : length s.exporter ≡ 48
  pub resumption : length s.resumption ≡ 48

pub start : (base : ℕ) (old : List ℕ) → Over base old old base [] 0
unfolding overwrite
start base old =
    let e : base + 0 ≡ base = omega arith in
    record { size = refl; upto = omega arith; bytes = sym (ap (λ (k : ℕ). take base old ++ drop k old) e ∙ take-append-drop base old) }

overwrite-behind : (base : ℕ) (p q old : List ℕ) (at : ℕ) → at ≡ base + length p → at ≤ length old
    → overwrite at q (overwrite base p old) ≡ overwrite base (p ++ q) old
unfolding overwrite
overwrite-behind base p q old at ea h =
    let a = take base old in
    let d = drop (base + length p) old in
    let la : length (take base old) ≡ base = rw length-take (omega arith) in
    let lp : length (a ++ p) ≡ at = rw (length-append, la) (omega arith) in
    let n : base + length p + length q ≡ base + length (p ++ q) = rw length-append (omega arith) in
    let regroup : a ++ (p ++ d) ≡ (a ++ p) ++ d = sym (append_assoc a p d) in
    let t : take at (a ++ (p ++ d)) ≡ a ++ p = ap (take at) regroup ∙ take_at (a ++ p) d at lp in
    let r : drop (at + length q) (a ++ (p ++ d)) ≡ drop (base + length (p ++ q)) old =
    sym (drop-drop (length q) at (a ++ (p ++ d)))
    ∙ ap (drop (length q)) (ap (drop at) regroup ∙ drop_at (a ++ p) d at lp)
    ∙ drop-drop (length q) (base + length p) old
    ∙ ap (λ (k : ℕ). drop k old) n in
    rw (t, r, append_assoc, append_assoc) refl

pub over_length : {base : ℕ} {old buf p : List ℕ} {at n : ℕ} → Over base old buf at p n → base + n ≤ length old → length buf ≡ length old
over_length {base} {old} {buf} {p} o h = let k = o.size in ap length o.bytes ∙ length-overwrite base p old (omega arith)

-- the same bytes, grouped otherwise
pub regrouped : {base : ℕ} {old buf p q : List ℕ} {at n : ℕ} → p ≡ q → Over base old buf at p n → Over base old buf at q n
regrouped {base} {old} {buf} {at = at} {n = n} e o = subst (λ (l : List ℕ). Over base old buf at l n) e o

-- one run behind another
pub then : (base : ℕ) (old : List ℕ) (n m : ℕ) {buf p q : List ℕ} {at : ℕ} {buf' : List ℕ} {at' : ℕ} → base + (n + m) ≤ length old
    → Over base old buf at p n → Over at buf buf' at' q m → Over base old buf' at' (p ++ q) (n + m)
then base old n m {buf} {p} {q} {at} {buf'} {at'} h o o' =
    let u = o.upto in
    let v = o'.upto in
    let k = o.size in
    let l = o'.size in
    record {
      size = length-append p q ∙ omega arith;
      upto = omega arith;
      bytes = o'.bytes ∙ ap (overwrite at q) o.bytes ∙ overwrite-behind base p q old at (omega arith) (omega arith);
    }

-- what `put` promises of bs, put at index at of buf
abbrev Put : List ℕ → List ℕ → ℕ → List ℕ → ℕ → Type 0
Put bs buf at buf' at' = (at' ≡ behind at bs buf) × (buf' ≡ after at bs buf)

-- one `put` more
pub more : (base : ℕ) (old : List ℕ) (n m : ℕ) (bs : List ℕ) {buf p : List ℕ} {at : ℕ} {buf' : List ℕ} {at' : ℕ} → base + (n + m) ≤ length old
    → Over base old buf at p n → length bs ≡ m → Put bs buf at buf' at' → Over base old buf' at' (p ++ bs) (n + m)
more base old n m bs {buf} {p} {at} {buf'} {at'} h o lb w =
    let u = o.upto in
    let l : length buf ≡ length old = over_length o (omega arith) in
    let e = behind-fits at bs buf (omega arith) in
    let ea = w.0 in
    then base old n m h o (record { size = lb; upto = omega arith; bytes = w.1 ∙ after-fits at bs buf (omega arith) })

-- and of a number
pub number_more : (base : ℕ) (old : List ℕ) (n m x : ℕ) {bs : List ℕ} {buf p : List ℕ} {at : ℕ} {buf' : List ℕ} {at' : ℕ}
    → base + (n + m) ≤ length old → Over base old buf at p n → bs ≡ bytes_low_first 0 m x → Put bs buf at buf' at'
    → Over base old buf' at' (p ++ le m x) (n + m)
number_more base old n m x {bs} {p = p} h o eb w =
    let e = eb ∙ to_le m x in
    regrouped (ap (λ (l : List ℕ). p ++ l) e) (more base old n m bs h o (ap length e ∙ length-le m x) w)

-- one word more, and all eight
pub word_more : (base : ℕ) (old state : List ℕ) (i : ℕ) {w buf : List ℕ} {at : ℕ} {buf' : List ℕ} {at' : ℕ} → i < 8 → length state ≡ 8
    → base + 64 ≤ length old → Over base old buf at (le_words (take i state)) (8 * i) → w ≡ bytes_low_first 0 8 (get_or state i 0)
    → Put w buf at buf' at' → Over base old buf' at' (le_words (take (i + 1) state)) (8 * (i + 1))
word_more base old state i h l fits o ew w =
    let e : 8 * i + 8 ≡ 8 * (i + 1) = omega arith in
    let p : le_words (take i state) ++ le 8 (get_or state i 0) ≡ le_words (take (i + 1) state) =
    sym (le_words-snoc (take i state) (get_or state i 0))
    ∙ ap le_words (sym (take-suc state i 0 (omega arith)) ∙ ap (λ (k : ℕ). take k state) (sym (add-one i))) in
    rw e at (regrouped p (number_more base old (8 * i) 8 (get_or state i 0) (omega arith) o ew w))

pub words-done : (base : ℕ) (old state : List ℕ) (i : ℕ) {buf : List ℕ} {at : ℕ} → length state ≡ 8 → i ≡ 8
    → Over base old buf at (le_words (take i state)) (8 * i) → Over base old buf at (le_words state) 64
words-done base old state i {buf} {at} l e o =
    let t : take 8 state ≡ state = take_all 8 state (omega arith) in
    regrouped (ap le_words t) (subst (λ (k : ℕ). Over base old buf at (le_words (take k state)) (8 * k)) e o)

-- the parts of a session, one behind the other
pub running_over : (base : ℕ) (old : List ℕ) (h : Running) {b1 b2 b3 count : List ℕ} {a1 a2 a3 : ℕ} → base + 200 ≤ length old
    → length h.block ≡ 128 → Over base old b1 a1 (le_words h.state) 64 → Put h.block b1 a1 b2 a2
    → count ≡ bytes_low_first 0 8 h.count → Put count b2 a2 b3 a3 → Over base old b3 a3 (encoded_running h) 200
unfolding encoded_running
running_over base old h fits lb o p ec q =
    let y = more base old 64 128 h.block (omega arith) o lb p in
    let z = number_more base old 192 8 h.count (omega arith) y ec q in
    regrouped (append_assoc (le_words h.state) h.block (le 8 h.count)) z

pub places_over : (base : ℕ) (old : List ℕ) (s : Session) {b1 b2 b3 b4 b5 b6 b7 b8 b9 b10 : List ℕ} {a1 a2 a3 a4 a5 a6 a7 a8 a9 a10 : ℕ}
    → base + 480 ≤ length old → Places s
    → Put s.chain old base b1 a1 → Put s.binder_key b1 a1 b2 a2 → Put s.client_early b2 a2 b3 a3
    → Put s.early_exporter b3 a3 b4 a4 → Put s.client_handshake b4 a4 b5 a5 → Put s.server_handshake b5 a5 b6 a6
    → Put s.client_application b6 a6 b7 a7 → Put s.server_application b7 a7 b8 a8 → Put s.exporter b8 a8 b9 a9
    → Put s.resumption b9 a9 b10 a10 → Over base old b10 a10 (encoded_places s) 480
unfolding encoded_places
places_over base old s fits l p0 p1 p2 p3 p4 p5 p6 p7 p8 p9 =
    let f1 = more base old 0 48 s.chain (omega arith) (start base old) l.chain p0 in
    let f2 = more base old 48 48 s.binder_key (omega arith) f1 l.binder_key p1 in
    let f3 = more base old 96 48 s.client_early (omega arith) f2 l.client_early p2 in
    let f4 = more base old 144 48 s.early_exporter (omega arith) f3 l.early_exporter p3 in
    let f5 = more base old 192 48 s.client_handshake (omega arith) f4 l.client_handshake p4 in
    let f6 = more base old 240 48 s.server_handshake (omega arith) f5 l.server_handshake p5 in
    let f7 = more base old 288 48 s.client_application (omega arith) f6 l.client_application p6 in
    let f8 = more base old 336 48 s.server_application (omega arith) f7 l.server_application p7 in
    let f9 = more base old 384 48 s.exporter (omega arith) f8 l.exporter p8 in
    let f10 = more base old 432 48 s.resumption (omega arith) f9 l.resumption p9 in
    regrouped (simp append_assoc) f10

one_byte : (x : ℕ) → x < 256 → x ∷ [] ≡ bytes_low_first 0 1 x
one_byte x h = let e : x ≡ x % 256 = omega arith in ap (λ (k : ℕ). k ∷ []) e

pub numbers_over : (s : Session) (old : List ℕ) {v0 v1 v2 v3 v4 v5 v6 b1 b2 b3 b4 b5 b6 b7 : List ℕ} {a1 a2 a3 a4 a5 a6 a7 : ℕ}
    → 16 ≤ length old → s.kind < 256 → s.early < 256
    → v0 ≡ bytes_low_first 0 2 s.suite → Put v0 old 0 b1 a1 → v1 ≡ s.kind ∷ [] → Put v1 b1 a1 b2 a2
    → v2 ≡ s.early ∷ [] → Put v2 b2 a2 b3 a3 → v3 ≡ bytes_low_first 0 2 s.point → Put v3 b3 a3 b4 a4
    → v4 ≡ bytes_low_first 0 2 s.stage → Put v4 b4 a4 b5 a5 → v5 ≡ bytes_low_first 0 4 s.client_updates → Put v5 b5 a5 b6 a6
    → v6 ≡ bytes_low_first 0 4 s.server_updates → Put v6 b6 a6 b7 a7 → Over 0 old b7 a7 (encoded_numbers s) 16
unfolding encoded_numbers
numbers_over s old h hk he e0 p0 e1 p1 e2 p2 e3 p3 e4 p4 e5 p5 e6 p6 =
    let f1 = number_more 0 old 0 2 s.suite (omega arith) (start 0 old) e0 p0 in
    let f2 = number_more 0 old 2 1 s.kind (omega arith) f1 (e1 ∙ one_byte s.kind hk) p1 in
    let f3 = number_more 0 old 3 1 s.early (omega arith) f2 (e2 ∙ one_byte s.early he) p2 in
    let f4 = number_more 0 old 4 2 s.point (omega arith) f3 e3 p3 in
    let f5 = number_more 0 old 6 2 s.stage (omega arith) f4 e4 p4 in
    let f6 = number_more 0 old 8 4 s.client_updates (omega arith) f5 e5 p5 in
    let f7 = number_more 0 old 12 4 s.server_updates (omega arith) f6 e6 p6 in
    regrouped (simp append_assoc) f7

-- a buffer that is written whole
pub whole : {old buf p : List ℕ} {at n : ℕ} → length old ≡ n → Over 0 old buf at p n → buf ≡ p
unfolding overwrite
whole {old} {buf} {p} h o =
    let k = o.size in
    o.bytes ∙ rw (drop_of_length-le old {i = 0 + length p} (omega arith)) (append-nil p)

-- all of it
pub session_over : (s : Session) (old : List ℕ) {b1 b2 b3 : List ℕ} {a1 a2 a3 : ℕ} → length old ≡ session_bytes
    → Over 0 old b1 a1 (encoded_numbers s) 16 → Over a1 b1 b2 a2 (encoded_running s.transcript) 200 → Over a2 b2 b3 a3 (encoded_places s) 480
    → b3 ≡ cond (eqb (length old) session_bytes) (encoded s) old
unfolding encoded
session_over s old n o1 o2 o3 =
    let z = then 0 old 216 480 (omega arith) (then 0 old 16 200 (omega arith) o1 o2) o3 in
    rw (eq-eqb _ _ n)
    (whole n (regrouped (append_assoc (encoded_numbers s) (encoded_running s.transcript) (encoded_places s)) z))
