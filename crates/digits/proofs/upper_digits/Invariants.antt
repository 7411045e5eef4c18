-- `digits::upper_digits` meets its contract. The invariant: the digits from here on are what is left to look at.
use mathlib.Core.Path.{◌≡◌}
use lib.ListN.{drop}
use Rattle.digits.specs.Digits.{upper, hex_digits}
use Rattle.digits.proofs.upper_digits.Given as goal

abbrev pub invariant-loop-c : goal.invariant-loop-c
invariant-loop-c l = hex_digits upper (drop l.c-index l.text) ≡ hex_digits upper l.text
