-- What is read is the session.
use Prim.Native.Nat.{ℕ, ◌+◌, ◌≤◌}
use mathlib.Core.Bool.{cond}
use mathlib.Core.Path.{◌≡◌, refl, ap, ◌∙◌}
use mathlib.Core.List.{List, [], append-nil}
use native.Mathlib.Omega.{arith}
use lib.ListN.{length, get_or, take, drop, length-drop, drop_of_length-le}
use lib.Seq.{length-take-le}
use lib.Dec.{eqb}
use borrow.Author.Tests.{eq-eqb}
use Rattle.buffer.specs.Buffer.{overwrite, after}
use Rattle.buffer.proofs.Laws.{after-fits}
use Rattle.suite_hash.specs.declared.running.Running.{Running}
use Rattle.session.specs.declared.Session.{Session}
use Rattle.buffer.specs.Numbers.{number}
use Rattle.encoding.specs.Encoding.{session_bytes, part, decoded_running, decoded}
use Rattle.buffer.proofs.Numbers.{number_1}
use Rattle.encoding.proofs.Laws.{from_le_2, from_le_4, from_le_8}
use Rattle.std.specs.Int.{w16, w32, w64, from_le_bytes}

-- n bytes from index at on, copied to an empty list of as many
pub copied : (n at : ℕ) (bs z : List ℕ) {k : ℕ} {r : List ℕ} → at + n ≤ length bs → length z ≡ n → k ≡ n → r ≡ after 0 (take k (drop at bs)) z
    → r ≡ part at n bs
unfolding overwrite
copied n at bs z {k} h lz ek e =
    let l : length (take n (drop at bs)) ≡ n = length-take-le n (drop at bs) (rw length-drop (omega arith)) in
    let w : drop (0 + length (take n (drop at bs))) z ≡ [] = drop_of_length-le z {i = 0 + length (take n (drop at bs))} (omega arith) in
    e ∙ ap (λ (j : ℕ). after 0 (take j (drop at bs)) z) ek ∙ after-fits 0 (take n (drop at bs)) z (omega arith)
    ∙ rw (w, append-nil) refl

-- the number that std reads from such a part
module _ (bs : List ℕ) (at : ℕ) where
  length-part : (n : ℕ) {p : List ℕ} → at + n ≤ length bs → p ≡ part at n bs → length p ≡ n
  length-part n h e = ap length e ∙ length-take-le n (drop at bs) (rw length-drop (omega arith))

  pub read_2 : {p : List ℕ} {x : ℕ} → at + 2 ≤ length bs → p ≡ part at 2 bs → x ≡ from_le_bytes w16 p → x ≡ number (part at 2 bs)
  read_2 {p} h ep ex = ex ∙ from_le_2 p (length-part 2 h ep) ∙ ap number ep

  pub read_4 : {p : List ℕ} {x : ℕ} → at + 4 ≤ length bs → p ≡ part at 4 bs → x ≡ from_le_bytes w32 p → x ≡ number (part at 4 bs)
  read_4 {p} h ep ex = ex ∙ from_le_4 p (length-part 4 h ep) ∙ ap number ep

  pub read_8 : {p : List ℕ} {x : ℕ} → at + 8 ≤ length bs → p ≡ part at 8 bs → x ≡ from_le_bytes w64 p → x ≡ number (part at 8 bs)
  read_8 {p} h ep ex = ex ∙ from_le_8 p (length-part 8 h ep) ∙ ap number ep

pub read : (bs : List ℕ) (other : Session) {suite kind early point stage client server : ℕ} {transcript : Running}
    {chain binder_key client_early early_exporter client_handshake server_handshake client_application server_application exporter resumption : List ℕ} → length bs ≡ session_bytes
    → suite ≡ number (part 0 2 bs) → kind ≡ get_or bs 2 0 → early ≡ get_or bs 3 0 → point ≡ number (part 4 2 bs) → stage ≡ number (part 6 2 bs)
    → client ≡ number (part 8 4 bs) → server ≡ number (part 12 4 bs) → transcript ≡ decoded_running bs
    → chain ≡ part 216 48 bs → binder_key ≡ part 264 48 bs → client_early ≡ part 312 48 bs → early_exporter ≡ part 360 48 bs → client_handshake ≡ part 408 48 bs → server_handshake ≡ part 456 48 bs → client_application ≡ part 504 48 bs → server_application ≡ part 552 48 bs → exporter ≡ part 600 48 bs → resumption ≡ part 648 48 bs
    → ◌≡◌ {A = Session}
    (record {
      suite = suite;
      kind = kind;
      early = early;
      point = point;
      stage = stage;
      client_updates = client;
      server_updates = server;
      transcript = transcript;
      chain = chain;
      binder_key = binder_key;
      client_early = client_early;
      early_exporter = early_exporter;
      client_handshake = client_handshake;
      server_handshake = server_handshake;
      client_application = client_application;
      server_application = server_application;
      exporter = exporter;
      resumption = resumption;
    })
    (cond (eqb (length bs) session_bytes) (decoded bs) other)
unfolding decoded
read bs other n e0 e1 e2 e3 e4 e5 e6 e7 p0 p1 p2 p3 p4 p5 p6 p7 p8 p9 =
    rw (eq-eqb _ _ n, number_1 bs 2 (omega arith), number_1 bs 3 (omega arith), e0, e1, e2, e3, e4, e5, e6, e7, p0, p1, p2, p3, p4, p5, p6, p7, p8, p9) refl
