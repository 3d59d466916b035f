use Rattle.std.proofs.Common.{◌≡◌, ◌<◌, ◌/◌, ◌∷◌, ◌++◌, [], suc, length, ap, sym, ◌∙◌, arith, length-append}
use native.Mathlib.Nat.{zero-mul, le-div_iff_mul-le}
use Rattle.fips180.specs.Padding.{words_of, block_at}
use Rattle.fips180.specs.Rows.{folded}
use Rattle.fips180.proofs.Folding.{fold_none, fold_turn, fold_done}
use Rattle.compress.proofs.Pieces.{next-piece, next-rest, next-within, pieces}
use Rattle.compress.proofs.blocks.fold.Goals as goal

pub returns-then-p-BLOCK : goal.returns-then-p-BLOCK
returns-then-p-BLOCK g c = fold_none g.V.Sha2.variant _ _ (omega (arith, g.met.V.Sha2.block_law.0))

pub loop-block-init : goal.loop-block-init
unfolding folded
loop-block-init g c =
    let i = c.chunks_exact-block-items.ensures in (
      c.cut-x.ensures,
      rw c.into_iter-block-iterator.ensures.into_iter_gives (i.size ∙ c.BLOCK-2.ensures ∙ g.met.V.Sha2.block_law.0),
      rw (c.into_iter-block-iterator.ensures.into_iter_gives, zero-mul) i.rest,
      rw zero-mul (omega arith),
    )

pub loop-block-preserved : goal.loop-block-preserved
unfolding block_at
loop-block-preserved g c =
    let v = g.V.Sha2.variant in
    let h = c.in-Some.ensures.steps in
    let l = c.loop-block in
    let i = l.invariant in
    let p = c.args.p.now in
    let k = length l.yielded in
    let whole = h.1.1 ∙ i.1 in
    let b = next-piece p v.block k i.2 i.3 _ _ h.1.0 whole in
    let n : length (l.yielded ++ (c.in-Some.block ∷ [])) ≡ suc k = simp length-append (omega arith) in
    rw n (
      fold_turn v _ _ k i.0 (c.load.ensures ∙ ap (words_of v 16) b) c.compress_words-x.ensures,
      h.0 ∙ i.1,
      next-rest p v.block k i.2 i.3 _ _ h.1.0 whole,
      next-within p v.block k i.2 i.3 _ _ h.1.0 whole,
    )

pub returns : goal.returns
returns g c =
    let v = g.V.Sha2.variant in
    let i = c.loop-block.invariant in
    let p = c.args.p.now in
    let k = length c.loop-block.yielded in
    let law = g.met.V.Sha2.block_law in
    let positive : 0 < v.block = omega (arith, law, g.met.V.Sha2.word_law) in
    let less : length c.loop-block.block-iterator.rest.now < v.block = omega (arith, c.in-None.ensures.steps.1.0, i.1) in
    let q : length p / v.block ≡ k = pieces p v.block k i.2 i.3 less in
    let some : 0 < length p / v.block = (le-div_iff_mul-le positive).1 (omega (arith, c.if-p-BLOCK.false, c.BLOCK.ensures, law.0)) in
    c.widened.ensures ∙ fold_done v _ _ k (omega arith) i.0 ∙ ap (folded v c.args.s p) (sym q)
