use Rattle.script_line.proofs.Words.{word_next, word_last}
use Rattle.script_line.specs.Words.{word}
use Prim.Native.Nat.{ℕ, suc, ◌+◌, ◌-◌}
use native.Mathlib.Omega.{arith}
use mathlib.Core.Path.{◌≡◌, ap, ◌∙◌}
use Rattle.script_line.proofs.word.word.Goals as goal

pub loop-preserved : goal.loop-preserved
loop-preserved c =
    let l = c.loop in
    let n : suc (c.args.k - (l.counter + 1)) ≡ c.args.k - l.counter = omega arith in
    ap (word (c.args.k - (l.counter + 1))) c.split_word.ensures.1 ∙ word_next _ _ ∙ ap (λ (m : ℕ). word m l.rest.now) n ∙ l.invariant

pub returns : goal.returns
returns c =
    let l = c.loop in
    let n : 0 ≡ c.args.k - l.counter = omega arith in
    c.split_word-2.ensures.0 ∙ word_last _ ∙ ap (λ (m : ℕ). word m l.rest.now) n ∙ l.invariant
