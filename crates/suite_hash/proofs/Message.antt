-- What the running hash holds after a message is what FIPS 180-4 gives for it, and finishing gives the digest.
-- Once for every variant.
use Rattle.std.proofs.Common.{◌≡◌, ℕ, zero, suc, ◌+◌, ◌-◌, ◌*◌, ◌/◌, ◌%◌, ◌^◌, ◌<◌, ◌≤◌, List, [], ◌∷◌, ◌++◌, length, take, drop, set, sym, refl, ap, ◌∙◌, subst, append_assoc, append-nil, suc-mul, zero-mul, arith, length-append, length-drop, drop_of_length-le, take_at}
use native.Mathlib.Decide.{ℕ_discrete}
use lib.Arith.{digits_div, digits_mod}
use lib.Seq.{take-append-le, drop-append-le, drop-nil, set_at, append_snoc}
use Rattle.buffer.specs.Buffer.{zeros, placed}
use Rattle.buffer.proofs.Laws.{zeros-more, placed_is}
use Rattle.fips180.specs.Variant.{Variant}
use Rattle.fips180.specs.Padding.{zeros_for, padding, padded, blocks, block_at, words_of}
use Rattle.fips180.specs.Hash.{hash_value, digest_of, sha2}
use Rattle.fips180.specs.Rows.{cut, digest_in48}
use Rattle.fips180.proofs.Cut.{cut-compress}
use Rattle.fips180.proofs.Lengths.{length-padding, few_zeros, length-sha2}
use Rattle.suite_hash.specs.declared.running.Running.{Running}
use Rattle.suite_hash.specs.Running.{start, step, absorbed, finished, running_of}
use Rattle.suite_hash.proofs.Sound.{Sound, positive}
use Rattle.suite_hash.proofs.Absorbing.{absorbed-append, step_full, step_part}

module _ (v : Variant) (ok : Sound v) where
  -- whole blocks that a message has are not changed by what follows
  front : (p x : List ℕ) (i : ℕ) → i * v.block ≤ length p → hash_value v (p ++ x) i ≡ hash_value v p i
  unfolding hash_value block_at
  front p x zero h = refl
  front p x (suc i) h =
      let s : suc i * v.block ≡ i * v.block + v.block = suc-mul i v.block in
      let less : i * v.block ≤ length p = omega arith in
      let d : drop (i * v.block) (p ++ x) ≡ drop (i * v.block) p ++ x = drop-append-le (i * v.block) p x less in
      let t : take v.block (drop (i * v.block) p ++ x) ≡ take v.block (drop (i * v.block) p) =
      take-append-le v.block (drop (i * v.block) p) x (omega (arith, length-drop (i * v.block) p)) in
      let e = front p x i less in
      rw (e, d, t)

  cut-value : (p : List ℕ) (i : ℕ) → cut v (hash_value v p i) ≡ hash_value v p i
  unfolding hash_value
  cut-value p zero = ok.initial
  cut-value p (suc i) = cut-compress v (hash_value v p i) (words_of v 16 (block_at v p i))

  -- r holds the message p: q whole blocks and t bytes more
  record Holds (p : List ℕ) (r : Running) : Type 0 where
    pub q : ℕ
    pub t : ℕ
    pub long : length p ≡ q * v.block + t
    pub below : t < v.block
    pub counted : r.count ≡ length p
    pub hashed : r.state ≡ hash_value v p q
    pub rest : r.block ≡ drop (q * v.block) p ++ zeros (128 - t)

  is_running : (p : List ℕ) (r : Running) → Holds p r → r ≡ running_of v p
  unfolding running_of
  is_running p r h =
      let eq : length p / v.block ≡ h.q = ap (λ (n : ℕ). n / v.block) h.long ∙ digits_div h.q h.below in
      let et : length p % v.block ≡ h.t = ap (λ (n : ℕ). n % v.block) h.long ∙ digits_mod h.q h.below in
      let a = h.hashed in
      let b = h.rest in
      let c = h.counted in
      rw (eq, et, ← a, ← b, ← c) refl

  holds_start : Holds [] (start v)
  unfolding start hash_value
  holds_start = record {
    q = 0;
    t = 0;
    long = omega (arith, zero-mul v.block);
    below = positive v ok;
    counted = refl;
    hashed = refl;
    rest = rw (drop-nil {A = ℕ} (0 * v.block));
  }

  module _ (p : List ℕ) (r : Running) (h : Holds p r) (b : ℕ) (small : length p + 1 < 2 ^ 64) where
    place : r.count % v.block ≡ h.t
    place = rw (h.counted, h.long) (digits_mod h.q h.below)

    rest_long : length (drop (h.q * v.block) p) ≡ h.t
    rest_long = let l = h.long in length-drop (h.q * v.block) p ∙ omega arith

    filled : set r.block (r.count % v.block) b ≡ drop (h.q * v.block) p ++ b ∷ zeros (128 - (h.t + 1))
    filled =
        let k = h.below in
        let w = ok.within in
        let e : 128 - h.t ≡ suc (128 - (h.t + 1)) = omega arith in
        rw (place, h.rest, e, zeros-more) (set_at (drop (h.q * v.block) p) 0 (zeros (128 - (h.t + 1))) b h.t rest_long)

    dropped : drop (h.q * v.block) (p ++ (b ∷ [])) ≡ drop (h.q * v.block) p ++ (b ∷ [])
    dropped = let l = h.long in drop-append-le (h.q * v.block) p (b ∷ []) (omega arith)

    same : hash_value v (p ++ (b ∷ [])) h.q ≡ hash_value v p h.q
    same = let l = h.long in front p (b ∷ []) h.q (omega arith)

    long_next : length (p ++ (b ∷ [])) ≡ h.q * v.block + (h.t + 1)
    long_next = let l = h.long in length-append p (b ∷ []) ∙ omega arith

    count_next : (r.count + 1) % 2 ^ 64 ≡ length (p ++ (b ∷ []))
    count_next = let l = h.counted in omega (arith, length-append p (b ∷ []))

    regroup : set r.block (r.count % v.block) b ≡ drop (h.q * v.block) (p ++ (b ∷ [])) ++ zeros (128 - (h.t + 1))
    regroup = filled ∙ rw dropped (sym (append_snoc (drop (h.q * v.block) p) b (zeros (128 - (h.t + 1)))))

    holds_full : h.t + 1 ≡ v.block → Holds (p ++ (b ∷ [])) (step v r b)
    unfolding hash_value block_at
    holds_full e =
        let s : suc h.q * v.block ≡ h.q * v.block + v.block = suc-mul h.q v.block in
        let l = long_next in
        let x = drop (h.q * v.block) (p ++ (b ∷ [])) in
        let whole : length x ≡ v.block = length-drop (h.q * v.block) (p ++ (b ∷ [])) ∙ omega arith in
        let k : take v.block (set r.block (r.count % v.block) b) ≡ x =
        ap (take v.block) regroup ∙ take_at x (zeros (128 - (h.t + 1))) v.block whole in
        let k' : take v.block x ≡ x = ap (take v.block) (sym (append-nil x)) ∙ take_at x [] v.block whole in
        let c : cut v r.state ≡ hash_value v (p ++ (b ∷ [])) h.q = ap (cut v) h.hashed ∙ cut-value p h.q ∙ sym same in
        let past : length (p ++ (b ∷ [])) ≤ suc h.q * v.block = omega arith in
        subst (λ (z : Running). Holds (p ++ (b ∷ [])) z) (sym (step_full v r b (ap (λ (y : ℕ). y + 1) place ∙ e)))
        (record {
          q = suc h.q;
          t = 0;
          long = omega arith;
          below = positive v ok;
          counted = count_next;
          hashed = rw (k, k', c);
          rest = rw (drop_of_length-le (p ++ (b ∷ [])) past);
        })

    holds_part : (h.t + 1 ≡ v.block → ⊥) → Holds (p ++ (b ∷ [])) (step v r b)
    holds_part e =
        let k = h.below in
        subst (λ (z : Running). Holds (p ++ (b ∷ [])) z) (sym (step_part v r b (λ x. e (ap (λ (y : ℕ). y + 1) (sym place) ∙ x))))
        (record {
          q = h.q;
          t = h.t + 1;
          long = long_next;
          below = omega arith;
          counted = count_next;
          hashed = h.hashed ∙ sym same;
          rest = regroup;
        })

    holds_step : Holds (p ++ (b ∷ [])) (step v r b)
    holds_step = go (ℕ_discrete (h.t + 1) v.block)
      where
        go : Dec (h.t + 1 ≡ v.block) → Holds (p ++ (b ∷ [])) (step v r b)
        go (yes e) = holds_full e
        go (no e) = holds_part e

  holds_absorbed : (p x : List ℕ) (r : Running) → length p + length x < 2 ^ 64 → Holds p r → Holds (p ++ x) (absorbed v r x)
  unfolding absorbed
  holds_absorbed p [] r small h = subst (λ (l : List ℕ). Holds l r) (sym (append-nil p)) h
  holds_absorbed p (b ∷ x) r small h =
      subst (λ (l : List ℕ). Holds l (absorbed v (step v r b) x)) (append_assoc p (b ∷ []) x)
      (holds_absorbed (p ++ (b ∷ [])) x (step v r b) (omega (arith, length-append p (b ∷ []))) (holds_step p r h b (omega arith)))

  holds : (m : List ℕ) → length m < 2 ^ 64 → Holds m (absorbed v (start v) m)
  holds m small = holds_absorbed [] m (start v) (omega arith) holds_start

  -- starting, and absorbing more of a message
  pub running_start : start v ≡ running_of v []
  running_start = is_running [] (start v) holds_start

  pub running_after : (m : List ℕ) → length m < 2 ^ 64 → absorbed v (start v) m ≡ running_of v m
  running_after m small = is_running m (absorbed v (start v) m) (holds m small)

  pub running_absorbed : (m x : List ℕ) → length m + length x < 2 ^ 64 → absorbed v (running_of v m) x ≡ running_of v (m ++ x)
  running_absorbed m x small =
      ap (λ (r : Running). absorbed v r x) (sym (running_after m (omega arith)))
      ∙ sym (absorbed-append v (start v) m x)
      ∙ running_after (m ++ x) (omega (arith, length-append m x))

  -- finishing after a message gives its digest
  pub running_finished : (m : List ℕ) → length m < 2 ^ 61 → finished v (running_of v m) ≡ placed (sha2 v m)
  unfolding finished sha2 blocks running_of padded digest_in48
  running_finished m small =
      let n = length m in
      let few = few_zeros v n (positive v ok) in
      let w = ok.within in
      let f = ok.wide.1 in
      let c : n % 2 ^ 61 ≡ n = omega arith in
      let lp = length-padding v n in
      let a = running_absorbed m (padding v n) (omega arith) in
      let p = m ++ padding v n in
      let b : length p / v.block ≡ (n + 1 + zeros_for v n + v.field) / v.block = ap (λ (k : ℕ). k / v.block) (length-append m (padding v n) ∙ omega arith) in
      let s : cut v (absorbed v (running_of v m) (padding v n)).state ≡ hash_value v p ((n + 1 + zeros_for v n + v.field) / v.block) =
      ap (λ (r : Running). cut v r.state) a ∙ cut-value p (length p / v.block) ∙ ap (hash_value v p) b in
      let d = digest_of v (hash_value v p ((n + 1 + zeros_for v n + v.field) / v.block)) in
      ap (λ (k : ℕ). digest_of v (cut v (absorbed v (running_of v m) (padding v k)).state) ++ zeros (48 - v.digest)) c
      ∙ ap (λ (z : List ℕ). digest_of v z ++ zeros (48 - v.digest)) s
      ∙ ap (λ (k : ℕ). d ++ zeros (48 - k)) (sym (length-sha2 v m ok.enough))
      ∙ sym (placed_is d)
