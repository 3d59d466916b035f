use Rattle.std.proofs.Common.{◌≡◌, codes, rules, arith}
use Rattle.std.proofs.lemmas.Slice.Eq.{text_from_reads}
use Rattle.script_line.specs.Headings.{named_of}
use Rattle.script_line.proofs.heading.named.Goals as goal

pub returns-in-update : goal.returns-in-update
unfolding named_of
returns-in-update c = let e : c.args.name.now ≡ codes "update" = text_from_reads _ _ (omega arith) (search rules) in rw e (search rules)

pub returns-in-complete : goal.returns-in-complete
unfolding named_of
returns-in-complete c = let e : c.args.name.now ≡ codes "complete" = text_from_reads _ _ (omega arith) (search rules) in rw e (search rules)

pub returns-in-handshake : goal.returns-in-handshake
unfolding named_of
returns-in-handshake c = let e : c.args.name.now ≡ codes "handshake" = text_from_reads _ _ (omega arith) (search rules) in rw e (search rules)

pub returns-in-application : goal.returns-in-application
unfolding named_of
returns-in-application c = let e : c.args.name.now ≡ codes "application" = text_from_reads _ _ (omega arith) (search rules) in rw e (search rules)
