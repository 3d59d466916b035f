use Rattle.std.proofs.Common.{◌≡◌, sym, ap, arith}
use Rattle.fips180.specs.Variant.{sha384}
use Rattle.fips180.specs.Rows.{constants_at}
use Rattle.sha384.proofs.Sha384Sha2.constants.Goals as goal

pub returns-in-0 : goal.returns-in-0
unfolding constants_at sha384
returns-in-0 c h = ap (constants_at sha384) (sym c.in-0.is)

pub returns-in-1 : goal.returns-in-1
unfolding constants_at sha384
returns-in-1 c h = ap (constants_at sha384) (sym c.in-1.is)

pub returns-in-2 : goal.returns-in-2
unfolding constants_at sha384
returns-in-2 c h = ap (constants_at sha384) (sym c.in-2.is)

pub returns-in-3 : goal.returns-in-3
unfolding constants_at sha384
returns-in-3 c h = ap (constants_at sha384) (sym c.in-3.is)

pub returns-in_default : goal.returns-in_default
unfolding constants_at sha384
returns-in_default c h = let e : 4 ≡ c.args.q = omega arith in ap (constants_at sha384) e
