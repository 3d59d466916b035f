-- Laws of absorbing, once for every variant: in parts, within a block, and whole blocks straight from the input.
use Rattle.std.proofs.Common.{◌≡◌, ℕ, zero, suc, ◌+◌, ◌-◌, ◌*◌, ◌/◌, ◌%◌, ◌^◌, ◌<◌, ◌≤◌, List, [], ◌∷◌, ◌++◌, length, get_or, take, drop, set, sym, refl, ap, ◌∙◌, append_assoc, append-nil, add-zero, mod-lt, suc-mul, add-mul, one-mul, div-add-mod', zero-mul, add-one, arith, length-append, length-drop, length-set, take-append-drop, length-take-le, drop-cons, take-suc, take-suc-set, take_at, drop-set-lt, take-add, eq-eqb, ne_eqb}
use lib.Arith.{digits_mod, mod-mul}
use lib.Seq.{append_snoc, set_at, take-length}
use Rattle.std.specs.List.{flat_map}
use Rattle.std.proofs.lemmas.List.{take_more}
use Rattle.std.proofs.lemmas.List.Concat.{flat_map-append}
use Rattle.buffer.specs.Buffer.{zeros, overwrite}
use Rattle.buffer.proofs.Laws.{length-zeros}
use Rattle.fips180.specs.Variant.{Variant}
use Rattle.fips180.specs.Padding.{block_at, words_of}
use Rattle.fips180.specs.Hash.{compress}
use Rattle.fips180.specs.Rows.{cut, folded}
use Rattle.suite_hash.specs.declared.running.Running.{Running}
use Rattle.suite_hash.specs.Running.{run, step, absorbed}
use Rattle.suite_hash.proofs.Sound.{Sound, positive}

module _ (v : Variant) where
  -- absorbing x and then y is absorbing x ++ y
  pub absorbed-append : (r : Running) (x y : List ℕ) → absorbed v r (x ++ y) ≡ absorbed v (absorbed v r x) y
  unfolding absorbed
  absorbed-append r [] y = refl
  absorbed-append r (b ∷ x) y = absorbed-append (step v r b) x y

  -- a message in parts, after one part more
  pub parts-next : {X : Type 0} (f : X → List ℕ) (h : Running) (xs : List X) (i : ℕ) (d : X) {r next : Running} → i < length xs
      → r ≡ absorbed v h (flat_map f (take i xs)) → next ≡ absorbed v r (f (get_or xs i d)) → next ≡ absorbed v h (flat_map f (take (i + 1) xs))
  parts-next f h xs i d less er en =
      let t = take_more xs i d less in
      en ∙ rw (t, flat_map-append, append-nil, er) (sym (absorbed-append h (flat_map f (take i xs)) (f (get_or xs i d))))

  pub step_full : (r : Running) (b : ℕ) → r.count % v.block + 1 ≡ v.block
      → step v r b ≡ run (compress v (cut v r.state) (words_of v 16 (take v.block (set r.block (r.count % v.block) b)))) (zeros 128) ((r.count + 1) % 2 ^ 64)
  unfolding step
  step_full r b h = rw (eq-eqb _ _ h)

  pub step_part : (r : Running) (b : ℕ) → (r.count % v.block + 1 ≡ v.block → ⊥)
      → step v r b ≡ run r.state (set r.block (r.count % v.block) b) ((r.count + 1) % 2 ^ 64)
  unfolding step
  step_part r b h = rw (ne_eqb _ _ h)

-- one more byte of bs, written at its place
overwrite-next : (at b : ℕ) (bs xs : List ℕ) → at < length xs → overwrite (at + 1) bs (set xs at b) ≡ overwrite at (b ∷ bs) xs
unfolding overwrite
overwrite-next at b bs xs h =
    let t : take (at + 1) (set xs at b) ≡ take at xs ++ (b ∷ []) = rw add-one (take-suc-set xs at b h) in
    let n : at + 1 + length bs ≡ at + suc (length bs) = omega arith in
    let d : drop (at + 1 + length bs) (set xs at b) ≡ drop (at + suc (length bs)) xs = rw n (drop-set-lt (at + suc (length bs)) xs at b (omega arith)) in
    rw (t, d) (append_snoc (take at xs) b (bs ++ drop (at + suc (length bs)) xs))

overwrite-none : (at : ℕ) (xs : List ℕ) → overwrite at [] xs ≡ xs
unfolding overwrite
overwrite-none at xs = rw add-zero (take-append-drop at xs)

-- one more byte behind p
overwrite-snoc : (at x : ℕ) (p b : List ℕ) → at + length p < length b → set (overwrite at p b) (at + length p) x ≡ overwrite at (p ++ (x ∷ [])) b
unfolding overwrite
overwrite-snoc at x p b h =
    let f = take at b ++ p in
    let n = at + length p in
    let l : length f ≡ n = length-append (take at b) p ∙ (let e = length-take-le at b (omega arith) in omega arith) in
    let m : at + length (p ++ (x ∷ [])) ≡ suc n = omega (arith, length-append p (x ∷ [])) in
    rw (m, drop-cons b n 0 h, ← append_assoc (take at b) p) (set_at f (get_or b n 0) (drop (suc n) b) x n l
    ∙ append_assoc (take at b) p (x ∷ drop (suc n) b)
    ∙ ap (λ (z : List ℕ). take at b ++ z) (sym (append_snoc p x (drop (suc n) b))))

module _ (v : Variant) (ok : Sound v) where
  -- the place of a byte does not depend on the count's wrapping
  pub wrapped : (n : ℕ) → n % 2 ^ 64 % v.block ≡ n % v.block
  wrapped n =
      let e : n % 2 ^ 64 ≡ n / v.block % ok.turns * v.block + n % v.block =
      ap (λ (k : ℕ). n % k) (sym ok.even) ∙ mod-mul n {m = ok.turns} {c = v.block} ok.turning (positive v ok) in
      ap (λ (k : ℕ). k % v.block) e ∙ digits_mod (n / v.block % ok.turns) (mod-lt n (positive v ok))

  -- the place after n bytes that stay in the block
  place_after : (c n : ℕ) → c % v.block + n < v.block → (c + n) % 2 ^ 64 % v.block ≡ c % v.block + n
  place_after c n h =
      let q = c / v.block in
      let e : c + n ≡ q * v.block + (c % v.block + n) = omega (arith, div-add-mod' c v.block) in
      wrapped (c + n) ∙ ap (λ (k : ℕ). k % v.block) e ∙ digits_mod q h

  -- bytes that do not complete the block
  pub part-absorbed : (s b p : List ℕ) (c : ℕ) → c < 2 ^ 64 → length b ≡ 128 → c % v.block + length p < v.block
      → absorbed v (run s b c) p ≡ run s (overwrite (c % v.block) p b) ((c + length p) % 2 ^ 64)
  unfolding absorbed
  part-absorbed s b [] c small long h =
      let e : (c + 0) % 2 ^ 64 ≡ c = omega arith in
      rw (overwrite-none (c % v.block) b, e)
  part-absorbed s b (x ∷ p) c small long h =
      let w = ok.within in
      let k = place_after c 1 (omega arith) in
      let t = step_part v (run s b c) x (λ z. omega arith) in
      let i = part-absorbed s (set b (c % v.block) x) p ((c + 1) % 2 ^ 64) (omega arith) (simp length-set long) (rw k (omega arith)) in
      let o = overwrite-next (c % v.block) x p b (omega arith) in
      let n : ((c + 1) % 2 ^ 64 + length p) % 2 ^ 64 ≡ (c + suc (length p)) % 2 ^ 64 = omega arith in
      ap (λ (r : Running). absorbed v r p) t ∙ (rw (k, o, n) at i)

  -- bytes that complete it
  pub full_absorbed : (s b p : List ℕ) (c : ℕ) → c < 2 ^ 64 → length b ≡ 128 → 0 < length p → c % v.block + length p ≡ v.block
      → absorbed v (run s b c) p
      ≡ run (compress v (cut v s) (words_of v 16 (take v.block (overwrite (c % v.block) p b)))) (zeros 128) ((c + length p) % 2 ^ 64)
  unfolding absorbed
  full_absorbed s b p c small long some whole =
      let w = ok.within in
      let at = c % v.block in
      let j = length p - 1 in
      let x = get_or p j 0 in
      let f = take j p in
      let lf : length f ≡ j = length-take-le j p (omega arith) in
      let n : suc j ≡ length p = omega arith in
      let split : p ≡ f ++ (x ∷ []) = sym (take-length p) ∙ ap (λ (k : ℕ). take k p) (sym n) ∙ take-suc p j 0 (omega arith) in
      let a = part-absorbed s b f c small long (omega arith) in
      let k = place_after c (length f) (omega arith) in
      let r = run s (overwrite at f b) ((c + length f) % 2 ^ 64) in
      let t = step_full v r x (omega arith) in
      let o = overwrite-snoc at x f b (omega arith) in
      let m : ((c + length f) % 2 ^ 64 + 1) % 2 ^ 64 ≡ (c + length p) % 2 ^ 64 = omega arith in
      ap (absorbed v (run s b c)) split
      ∙ absorbed-append v (run s b c) f (x ∷ [])
      ∙ ap (λ (z : Running). step v z x) a
      ∙ (rw (k, o, ← split, m) at t)

  -- one whole block, where the block at hand is empty: no matter what lies in it
  pub block-absorbed : (s b p : List ℕ) (c : ℕ) → c < 2 ^ 64 → length b ≡ 128 → c % v.block ≡ 0 → length p ≡ v.block
      → absorbed v (run s b c) p ≡ run (compress v (cut v s) (words_of v 16 p)) (zeros 128) ((c + v.block) % 2 ^ 64)
  unfolding overwrite
  block-absorbed s b p c small long none whole =
      let some = positive v ok in
      let e = full_absorbed s b p c small long (omega arith) (omega arith) in
      let t : take v.block (p ++ drop (0 + length p) b) ≡ p = take_at p (drop (0 + length p) b) v.block whole in
      rw (none, t, whole) at e

  -- a block at its start stays there over whole blocks
  pub even_after : (c n : ℕ) → c % v.block ≡ 0 → (c + n * v.block) % 2 ^ 64 % v.block ≡ 0
  even_after c n none =
      let q = c / v.block in
      let d : c + n * v.block ≡ (q + n) * v.block + 0 = omega (arith, div-add-mod' c v.block, add-mul q n v.block) in
      wrapped (c + n * v.block) ∙ ap (λ (z : ℕ). z % v.block) d ∙ digits_mod (q + n) (positive v ok)

  -- and a block that is completed is at the next one's start
  pub full_after : (c n : ℕ) → c % v.block + n ≡ v.block → (c + n) % 2 ^ 64 % v.block ≡ 0
  full_after c n whole =
      let q = c / v.block in
      let d : c + n ≡ (q + 1) * v.block + 0 = omega (arith, div-add-mod' c v.block, add-mul q 1 v.block, one-mul v.block) in
      wrapped (c + n) ∙ ap (λ (z : ℕ). z % v.block) d ∙ digits_mod (q + 1) (positive v ok)

  -- whole blocks
  pub blocks-absorbed : (s p : List ℕ) (c : ℕ) → c < 2 ^ 64 → c % v.block ≡ 0 → (n : ℕ) → n * v.block ≤ length p
      → absorbed v (run s (zeros 128) c) (take (n * v.block) p) ≡ run (folded v s p n) (zeros 128) ((c + n * v.block) % 2 ^ 64)
  unfolding absorbed folded block_at
  blocks-absorbed s p c small none zero h =
      let z : 0 * v.block ≡ 0 = zero-mul v.block in
      let e : (c + 0) % 2 ^ 64 ≡ c = omega arith in
      rw (z, e)
  blocks-absorbed s p c small none (suc n) h =
      let m : suc n * v.block ≡ n * v.block + v.block = suc-mul n v.block in
      let i = blocks-absorbed s p c small none n (omega arith) in
      let place = even_after c n none in
      let x = take v.block (drop (n * v.block) p) in
      let lx : length x ≡ v.block = length-take-le v.block (drop (n * v.block) p) (omega (arith, length-drop (n * v.block) p)) in
      let t = block-absorbed (folded v s p n) (zeros 128) x ((c + n * v.block) % 2 ^ 64) (omega arith) (length-zeros 128) place lx in
      let k : ((c + n * v.block) % 2 ^ 64 + v.block) % 2 ^ 64 ≡ (c + (n * v.block + v.block)) % 2 ^ 64 = omega arith in
      rw (m, take-add (n * v.block) v.block p)
      (absorbed-append v (run s (zeros 128) c) (take (n * v.block) p) x ∙ ap (λ (z : Running). absorbed v z x) i ∙ t ∙ rw k)
