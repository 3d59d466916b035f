-- What the code's derivations are, over plain lists and numbers.
use Prim.Native.Nat.{ℕ, ◌≤◌, ◌<◌, min}
use mathlib.Core.Path.{◌≡◌, sym, ap, ◌∙◌}
use mathlib.Core.Bool.{Bool, true, cond}
use mathlib.Core.List.{List, [], ◌++◌, append-nil}
use native.Mathlib.Omega.{arith}
use lib.ListN.{length, take, length-take}
use lib.Seq.{take_all}
use lib.Dec.{eqb}
use borrow.Author.Tests.{eq-eqb, ne_eqb}
use Rattle.buffer.specs.Buffer.{zeros, placed}
use Rattle.buffer.proofs.Laws.{length-zeros, take-zeros, take-placed, take_least}
use Rattle.refusal.specs.Refusal.{Answer}
use Rattle.refusal.specs.Answered.{Answered}
use Rattle.suite.specs.declared.Suite.{Suite}
use Rattle.suite.specs.Suite.{suite_of, hash_length, key_length, iv_length, max_label}
use Rattle.suite.proofs.Laws.{every, bounded}
use Rattle.suite_hash.specs.Hash.{hash, max_input}
use Rattle.suite_hash.proofs.Whole.{length-hash}
use Rattle.hmac.specs.declared.Keyed.{Keyed}
use Rattle.hkdf.specs.Refusals.{expand_label_number, max_message}
use Rattle.hmac.specs.Rfc2104.{hmac}
use Rattle.hkdf.specs.Rfc5869.{extract}
use Rattle.hkdf.specs.Rfc8446.{expand_label, derive_secret}
use Rattle.hmac.specs.Keyed.{keyed_of, mac_of}
use Rattle.keyed.specs.Blocks.{label_block}
use Rattle.hkdf.proofs.Values.{some_hash}
use Rattle.hkdf.proofs.Calls.{length-expand_label, length-derive_secret}
use Rattle.hmac.proofs.Prepared.{mac_under}
use Rattle.keyed.proofs.Prepared.{label_block_is, derive_by_hash}
use Rattle.schedule.specs.Labels.{Secret, label, binder_of, derived, traffic_upd, key, iv, finished, exporting}
use Rattle.schedule.specs.Labels.Secret.{binder_external, binder_resumption, client_early, early_exporter, client_handshake, server_handshake, client_application, server_application, exporter, resumption}
use Rattle.schedule.specs.Schedule.{or_zeros, early_secret, next_secret, from_hash, next_traffic_secret, write_key, write_iv, verify_data, tls_exporter}

label_short : (x : Secret) → length (label x) ≤ 249
unfolding label
label_short binder_external = omega arith
label_short binder_resumption = omega arith
label_short client_early = omega arith
label_short early_exporter = omega arith
label_short client_handshake = omega arith
label_short server_handshake = omega arith
label_short client_application = omega arith
label_short server_application = omega arith
label_short exporter = omega arith
label_short resumption = omega arith

-- a key and an IV have some bytes, and come of one block
record Small (s : Suite) : Type 0 where
  pub key_some : 1 ≤ s.key_len
  pub key_most : s.key_len ≤ s.hash_len
  pub iv_some : 1 ≤ s.iv_len
  pub iv_most : s.iv_len ≤ s.hash_len

small : (n : ℕ) → Small (suite_of n)
small = every Small (omega arith) (omega arith) (omega arith) (omega arith) (omega arith)

module _ (suite : ℕ) where
  -- ---- what is shared

  pub derive_of : (k : Keyed) (name t : List ℕ) {h : ℕ} {r : List ℕ} → h ≡ hash_length suite → r ≡ label_block suite k name t h
      → r ≡ label_block suite k name t (hash_length suite)
  derive_of k name t eh er = er ∙ ap (label_block suite k name t) eh

  pub over_hash : (k : Keyed) (name t : List ℕ) {h : ℕ} {r : List ℕ} → h ≡ hash_length suite → r ≡ label_block suite k name (take h t)
      (hash_length suite)
      → r ≡ label_block suite k name (take (hash_length suite) t) (hash_length suite)
  over_hash k name t eh er = er ∙ ap (λ (n : ℕ). label_block suite k name (take n t) (hash_length suite)) eh

  pub nothing_of : (secret name : List ℕ) {k : Keyed} {d r : List ℕ} → k ≡ keyed_of suite secret → d ≡ placed (hash suite [])
      → r ≡ label_block suite k name (take (hash_length suite) d) (hash_length suite)
      → r ≡ label_block suite (keyed_of suite secret) name (hash suite []) (hash_length suite)
  nothing_of secret name {k} {d} ek ed er =
      let c : take (hash_length suite) d ≡ hash suite [] = ap (take (hash_length suite)) ed ∙ take-placed (hash_length suite)
      (hash suite []) (length-hash suite []) in
      er
      ∙ ap (λ (x : List ℕ). label_block suite k name x (hash_length suite)) c
      ∙ ap (λ (j : Keyed). label_block suite j name (hash suite []) (hash_length suite)) ek

  -- Derive-Secret over nothing
  pub nothing_is : (secret name : List ℕ) {r : List ℕ} → length name ≤ 249
      → r ≡ label_block suite (keyed_of suite secret) name (hash suite []) (hash_length suite) → r ≡ placed
      (derive_secret suite secret name [])
  nothing_is secret name short er =
      let w = (bounded suite).hash in
      let l : length (hash suite []) ≡ hash_length suite = length-hash suite [] in
      let b = label_block_is suite secret name (hash suite []) (hash_length suite) (some_hash suite) (omega arith) short
      (omega arith) in
      er ∙ b ∙ ap placed (derive_by_hash suite secret name [])

  -- and over messages, given their hash
  pub secret_is : (x : Secret) (secret t : List ℕ) {h : ℕ} {k : Keyed} {r : List ℕ} → h ≡ hash_length suite → k ≡ keyed_of suite secret
      → r ≡ label_block suite k (label x) (take h t) (hash_length suite)
      → r ≡ placed (from_hash suite x secret (take (hash_length suite) t))
  unfolding from_hash
  secret_is x secret t {k = k} eh ek er =
      let w = (bounded suite).hash in
      let m = take (hash_length suite) t in
      let l : length m ≤ 255 = simp length-take (omega arith) in
      over_hash k (label x) t eh er
      ∙ ap (λ (j : Keyed). label_block suite j (label x) m (hash_length suite)) ek
      ∙ label_block_is suite secret (label x) m (hash_length suite) (some_hash suite) (omega arith) (label_short x) l

  -- under a label alone
  alone_is : (secret name : List ℕ) (asked : ℕ) {k : Keyed} {n : ℕ} {r : List ℕ} → length name ≤ 249 → 1 ≤ asked → asked ≤
      hash_length suite
      → k ≡ keyed_of suite secret → n ≡ asked → r ≡ label_block suite k name [] n → r ≡ placed
      (expand_label suite secret name [] asked)
  alone_is secret name asked {k} {n} short some most ek en er =
      er
      ∙ ap (label_block suite k name []) en
      ∙ ap (λ (j : Keyed). label_block suite j name [] asked) ek
      ∙ label_block_is suite secret name [] asked some most short (omega arith)

  -- ---- the secrets

  pub absent_is : (salt input : List ℕ) {h : ℕ} {z r : List ℕ} → length input ≡ 0 → h ≡ hash_length suite → z ≡ zeros 48
      → r ≡ placed (extract suite (take h salt) (take max_message (take h z)))
      → r ≡ placed (extract suite (take (hash_length suite) salt) (or_zeros suite (take max_message input)))
  absent_is salt input {h} {z} none eh ez er =
      let w = (bounded suite).hash in
      let l : length (take max_message input) ≡ 0 = simp length-take (omega arith) in
      let t : eqb (length (take max_message input)) 0 ≡ true = eq-eqb _ _ l in
      let o : take max_message (take h z) ≡ zeros (hash_length suite) =
      ap (λ (n : ℕ). take max_message (take n z)) eh
      ∙ ap (λ (x : List ℕ). take max_message (take (hash_length suite) x)) ez
      ∙ ap (take max_message) (take-zeros 48 (hash_length suite) (omega arith))
      ∙ take_all max_message (zeros (hash_length suite)) (omega (arith, length-zeros (hash_length suite))) in
      er ∙ rw (o, t, eh)

  or_some : (v : List ℕ) → (length v ≡ 0 → ⊥) → or_zeros suite v ≡ v
  or_some v some = ap (λ (b : Bool). cond b (zeros (hash_length suite)) v) (ne_eqb (length v) 0 some)

  pub present_is : (m : ℕ) (salt input : List ℕ) {h : ℕ} {r : List ℕ} → 0 < m → (length input ≡ 0 → ⊥) → h ≡ hash_length suite
      → r ≡ placed (extract suite (take h salt) (take m input))
      → r ≡ placed (extract suite (take (hash_length suite) salt) (or_zeros suite (take m input)))
  present_is m salt input pos some eh er =
      let l : length (take m input) ≡ min m (length input) = length-take m input in
      let z = or_some (take m input) (λ e. some (omega arith)) in
      er
      ∙ ap (λ (n : ℕ). placed (extract suite (take n salt) (take m input))) eh
      ∙ ap (λ (x : List ℕ). placed (extract suite (take (hash_length suite) salt) x)) (sym z)

  pub early_is : (psk : List ℕ) {salt r : List ℕ} → salt ≡ zeros 48 → r ≡ placed
      (extract suite (take (hash_length suite) salt) (or_zeros suite psk))
      → r ≡ placed (early_secret suite psk)
  unfolding early_secret
  early_is psk es er =
      let w = (bounded suite).hash in
      er ∙ rw (es, take-zeros 48 (hash_length suite) (omega arith))

  pub next_is : (secret input : List ℕ) {salt r : List ℕ} → salt ≡ label_block suite (keyed_of suite secret) derived
      (hash suite []) (hash_length suite)
      → r ≡ placed (extract suite (take (hash_length suite) salt) (or_zeros suite input)) → r ≡ placed
      (next_secret suite secret input)
  unfolding next_secret
  next_is secret input {salt} es er =
      let e = nothing_is secret derived (omega arith) es in
      let d = derive_secret suite secret derived [] in
      let t : take (hash_length suite) salt ≡ d = ap (take (hash_length suite)) e ∙ take-placed (hash_length suite) d
      (length-derive_secret suite secret derived []) in
      er ∙ ap (λ (x : List ℕ). placed (extract suite x (or_zeros suite input))) t

  pub external_is : (kind : ℕ) (secret : List ℕ) {r : List ℕ} → kind ≡ 1
      → r ≡ label_block suite (keyed_of suite secret) (label binder_external) (hash suite []) (hash_length suite)
      → r ≡ placed (derive_secret suite secret (label (binder_of kind)) [])
  external_is kind secret e er = rw (eq-eqb kind 1 e) (nothing_is secret (label binder_external) (label_short binder_external)
      er)

  pub resumption_is : (kind : ℕ) (secret : List ℕ) {r : List ℕ} → (kind ≡ 1 → ⊥)
      → r ≡ label_block suite (keyed_of suite secret) (label binder_resumption) (hash suite []) (hash_length suite)
      → r ≡ placed (derive_secret suite secret (label (binder_of kind)) [])
  resumption_is kind secret e er = rw (ne_eqb kind 1 e)
      (nothing_is secret (label binder_resumption) (label_short binder_resumption) er)

  -- ---- of a traffic secret

  pub key_is : (secret : List ℕ) {k : Keyed} {n : ℕ} {r : List ℕ} → k ≡ keyed_of suite secret → n ≡ key_length suite → r ≡ label_block
      suite k key [] n
      → r ≡ placed (write_key suite secret)
  unfolding write_key
  key_is secret ek en er = alone_is secret key (key_length suite) (omega arith) (small suite).key_some (small suite).key_most ek
      en er

  pub iv_is : (secret : List ℕ) {k : Keyed} {n : ℕ} {r : List ℕ} → k ≡ keyed_of suite secret → n ≡ iv_length suite → r ≡ label_block
      suite k iv [] n
      → r ≡ placed (write_iv suite secret)
  unfolding write_iv
  iv_is secret ek en er = alone_is secret iv (iv_length suite) (omega arith) (small suite).iv_some (small suite).iv_most ek en er

  pub update_is : (secret : List ℕ) {k : Keyed} {h : ℕ} {r : List ℕ} → k ≡ keyed_of suite secret → h ≡ hash_length suite
      → r ≡ label_block suite k traffic_upd [] h → r ≡ placed (next_traffic_secret suite secret)
  unfolding next_traffic_secret
  update_is secret ek eh er = alone_is secret traffic_upd (hash_length suite) (omega arith) (some_hash suite) (omega arith) ek eh er

  pub verify_is : (base t : List ℕ) {k f : Keyed} {h : ℕ} {g r : List ℕ} → h ≡ hash_length suite → k ≡ keyed_of suite base
      → g ≡ label_block suite k finished [] h → f ≡ keyed_of suite (take (hash_length suite) g) → r ≡ mac_of suite f
      (take h t ++ ([] ++ []))
      → r ≡ placed (verify_data suite base (take (hash_length suite) t))
  unfolding verify_data
  verify_is base t {k} {f} {h} {g} eh ek eg ef er =
      let w = (bounded suite).hash in
      let x = expand_label suite base finished [] (hash_length suite) in
      let e : g ≡ placed x = alone_is base finished (hash_length suite) (omega arith) (some_hash suite) (omega arith) ek eh eg in
      let y : take (hash_length suite) g ≡ x = ap (take (hash_length suite)) e ∙ take-placed (hash_length suite) x
      (length-expand_label suite base finished [] (hash_length suite)) in
      let l : length (take h t) ≤ 48 = simp length-take (omega arith) in
      mac_under suite x (take h t) [] [] (omega arith) (ef ∙ ap (keyed_of suite) y) er
      ∙ ap (λ (m : List ℕ). placed (hmac suite x m)) (append-nil (take h t) ∙ ap (λ (n : ℕ). take n t) eh)

  -- ---- the exporter

  pub export_is : (secret name context out : List ℕ) (asked : ℕ) {h n : ℕ} {d g out' : List ℕ} {r : Answer} → h ≡ hash_length suite
      → n ≡ min max_label (length name) → d ≡ label_block suite (keyed_of suite secret) (take n name) (hash suite [])
      (hash_length suite)
      → g ≡ placed (hash suite (take max_input context))
      → Answered (expand_label_number suite (length (take h d)) 8 (length (take h g)) asked (length out))
      (expand_label suite (take h d) exporting (take h g) asked) out r out'
      → Answered (expand_label_number suite (hash_length suite) 8 (hash_length suite) asked (length out))
      (tls_exporter suite secret (take max_label name) (take max_input context) asked) out r out'
  unfolding tls_exporter
  export_is secret name context out asked {h} {n} {d} {g} eh en ed eg a =
      let c : take n name ≡ take max_label name = ap (λ (j : ℕ). take j name) en ∙ take_least max_label name in
      let l : length (take max_label name) ≤ 249 = simp length-take (omega arith) in
      let x = derive_secret suite secret (take max_label name) [] in
      let y = hash suite (take max_input context) in
      let lx : length x ≡ hash_length suite = length-derive_secret suite secret (take max_label name) [] in
      let ly : length y ≡ hash_length suite = length-hash suite (take max_input context) in
      let e : d ≡ placed x = nothing_is secret (take max_label name) l (rw c at ed) in
      let p : take h d ≡ x = ap (take h) e ∙ take-placed h x (lx ∙ sym eh) in
      let q : take h g ≡ y = ap (take h) eg ∙ take-placed h y (ly ∙ sym eh) in
      rw (p, q, lx, ly) at a
