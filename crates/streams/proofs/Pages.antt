-- What is put on a page of which nothing was written is what is said.
use mathlib.Core.Path.{◌≡◌, refl, ◌∙◌}
use mathlib.Core.List.{List}
use Prim.Native.Nat.{ℕ}
use native.Mathlib.Nat.{zero-add}
use Rattle.std.specs.Borrow.{MutBor}
use Rattle.digits.specs.declared.Page.{Page}
use Rattle.digits.specs.Digits.{Blank, Appends}
use Rattle.digits.proofs.Laws.{fronted}
use Rattle.streams.specs.declared.Stream.TheVariants.{Output, Error}
use Rattle.streams.specs.Streams.{Saying, output, error}

module _ {m : ℕ} {text last : List ℕ} {room : MutBor (List ℕ)} {p q : Page} (blank : Blank room p) (put : Appends m text p q) (ended : last ≡ q.room.now) where
  -- on standard output
  pub said_of_output : Saying (output text) room.now (record { stream = Output; count = q.used }) last
  said_of_output = let w = fronted blank put ended in
      record { stream = refl; counted = w.onward ∙ zero-add _; written = w.written }

  -- on standard error
  pub said_of_error : Saying (error text) room.now (record { stream = Error; count = q.used }) last
  said_of_error = let w = fronted blank put ended in
      record { stream = refl; counted = w.onward ∙ zero-add _; written = w.written }
