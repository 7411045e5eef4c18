-- Conversions one after the other: what ACR falls in each adds up.
use mathlib.Core.Path.{◌≡◌, refl, sym, ap, ◌∙◌}
use mathlib.Core.Logic.{⊎_elim}
use Prim.Native.Nat.{ℕ, ◌+◌, ◌*◌, ◌/◌, ◌%◌, ◌<◌, min}
use native.Mathlib.Nat.{eq-zero-or-pos, add_assoc, div-zero, div-add-mod, mul-add-div, mod-add-mod}
use native.Mathlib.Omega.{arith}
use borrow.Author.Tests.{ne_eqb}
use Rattle.state.specs.declared.Profile.{Profile}
use Rattle.state.specs.declared.Profile.TheVariants.{Ds2781, Ds2775}
use Rattle.state.specs.declared.Cycles.{Cycles}
use Rattle.conversion.specs.Conversion.{steps_of, rest_of, advanced_of, cycled_of}

-- what a first fall leaves, with a second: the same rest, and together as many steps
module _ (full40 t b : ℕ) where
  abbrev Joins : Type 0
  Joins =
      (rest_of full40 (rest_of full40 t + b) ≡ rest_of full40 (t + b)) × (steps_of full40 t + steps_of full40 (rest_of full40 t + b) ≡ steps_of full40 (t + b))

  joins_none : full40 ≡ 0 → Joins
  joins_none e = (simp e, simp (e, div-zero))

  joins_some : 0 < full40 → Joins
  joins_some pos =
      let l = 2 * full40 in
      let whole : t + b ≡ l * (t / l) + (t % l + b) = omega (arith, div-add-mod t l) in
      let steps = ap (λ (x : ℕ). x / l) whole ∙ mul-add-div {m = l} (omega arith) (t / l) (t % l + b) in
      simp (ne_eqb full40 0 (omega arith)) (mod-add-mod t l b, sym steps)

  joins : Joins
  joins = ⊎_elim joins_none joins_some (eq-zero-or-pos full40)

stops : (count s more : ℕ) → min (min (count + s) 255 + more) 255 ≡ min (count + (s + more)) 255
stops count s more = omega arith

pub cycled_more : (f : Profile) (full40 : ℕ) (y : Cycles) (a b : ℕ) → cycled_of f full40 (cycled_of f full40 y a) b ≡ cycled_of f full40 y (a + b)
unfolding cycled_of
cycled_more Ds2781 full40 y a b = refl
cycled_more Ds2775 full40 y a b =
    let t = y.rest + a in
    let j = joins full40 t b in
    let e : t + b ≡ y.rest + (a + b) = add_assoc y.rest a b in
    (λ i. record {
      count = (stops y.count (steps_of full40 t) (steps_of full40 (rest_of full40 t + b)) ∙ ap (λ (n : ℕ). min (y.count + n) 255) j.1) i;
      rest = j.0 i;
    }) ∙ ap (advanced_of full40 y.count) e
