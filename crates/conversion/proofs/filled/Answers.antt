use Rattle.std.proofs.Common.{◌≤◌, arith}
use Rattle.conversion.specs.Conversion.{filled_of}
use Rattle.conversion.proofs.FullLaws.{filled_high}
use borrow.Author.Rules.{rules}
use Rattle.conversion.proofs.filled.Goals as goal

pub overflow_cast-acr : goal.overflow_cast-acr
overflow_cast-acr c =
    let a = c.args in
    let high : c.share_up-acr.result ≤ 65535 =
    rw (c.share_up-acr.ensures, c.aged_full.ensures, c.taught-aging.ensures)
    (filled_high a.charge a.full a.full40 c.requires.charge_wf c.requires.full_bound (search rules)) in
    omega arith

pub returns : goal.returns
unfolding filled_of
returns c = simp (c.set.ensures, c.share_up-acr.ensures, c.aged_full.ensures, c.taught-aging.ensures)
