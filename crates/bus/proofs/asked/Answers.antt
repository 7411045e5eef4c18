use mathlib.Core.Path.{◌≡◌, refl, sym, ap, ◌∙◌}
use mathlib.Core.List.{List}
use Prim.Native.Nat.{ℕ}
use Rattle.bus.specs.declared.Rom.{Rom}
use Rattle.bus.specs.declared.Rom.TheVariants.{Net33, Net39, Skip, Match, Quiet}
use Rattle.bus.specs.Ask.{plain_of, asked_by, asked_of}
use Rattle.bus.proofs.asked.Goals as goal

other : (start count : ℕ) (master : List ℕ) (rom : Rom) → (rom ≡ Skip → ⊥) → (rom ≡ Match → ⊥) → plain_of start count rom ≡ asked_by start count master rom
other start count master Skip a b = absurd (a refl)
other start count master Match a b = absurd (b refl)
other start count master Net33 a b = refl
other start count master Net39 a b = refl
other start count master Quiet a b = refl

pub returns-in-Skip : goal.returns-in-Skip
unfolding asked_of
returns-in-Skip c = let a = c.args in
    c.asked_at.ensures ∙ ap (asked_by a.start a.count a.master.now) (sym c.in-Skip.is ∙ c.rom_of.ensures)

pub returns-in-Match : goal.returns-in-Match
unfolding asked_of
returns-in-Match c = let a = c.args in
    c.asked_at-in-Match.ensures ∙ ap (asked_by a.start a.count a.master.now) (sym c.in-Match.is ∙ c.rom_of.ensures)

pub returns-in_default : goal.returns-in_default
unfolding asked_of
returns-in_default c = let a = c.args in
    c.plain.ensures
    ∙ other a.start a.count a.master.now _ c.in_default.not-Skip c.in_default.not-Match
    ∙ ap (asked_by a.start a.count a.master.now) c.rom_of.ensures
