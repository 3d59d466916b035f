-- The marked cases, each by its layer's law.
use Prim.Native.Nat.{ℕ, ◌*◌, ◌≤◌}
use mathlib.Core.Path.{◌≡◌, refl}
use mathlib.Core.Bool.{true}
use native.Mathlib.Omega.{arith}
use Rattle.suite.specs.Suite.{known, hash_length}
use Rattle.suite_hash.proofs.Padded.{pads_55, pads_56, pads_111, pads_112}
use Rattle.hkdf.proofs.Limits.{key-label, iv-label, label_long, blocks_12, blocks_32, blocks_33, expand_allowed_lem, expand-refused, label_allowed_lem, label-refused}
use Rattle.book.proofs.Cases.{one_byte_of_no_group, handshake_when_fresh}
use Rattle.schedule.specs.Labels.{finished, derived}
use Rattle.marked.specs.Marked.{Marked, Longest}

-- 255 blocks are the most
longest : (n suite : ℕ) → 1 ≤ n → known suite ≡ true → 255 * hash_length suite ≡ n → Longest suite n
longest n suite some is e =
    record {
      expand_allowed = λ secret info room a b c d. expand_allowed_lem suite is secret info n room a b c some (omega arith) d;
      expand_refused = λ secret info room a b c. expand-refused suite is secret info _ room a b c (omega arith);
      label_allowed = λ label context room a b c d. label_allowed_lem suite is label context n room a b c some (omega arith) d;
      label_refused = λ label context room a b c. label-refused suite is label context _ room a b c (omega arith);
    }

pub marked : Marked
marked =
    record {
      m1 = key-label;
      m2 = iv-label;
      m3 = label_long 32 finished _ 8 0 18 refl refl refl;
      m4 = λ context e. label_long 32 derived context 7 32 49 refl e refl;
      m5 = blocks_12;
      m6 = (blocks_32, blocks_33);
      m7 = λ suite is e. longest 8160 suite (omega arith) is (omega arith);
      m8 = λ suite is e. longest 12240 suite (omega arith) is (omega arith);
      m9 = (pads_55, pads_56);
      m10 = (pads_111, pads_112);
      m11 = λ b x reached p s k. one_byte_of_no_group b x p s;
      m12 = handshake_when_fresh;
    }
