use mathlib.Core.Path.{◌≡◌, sym, ◌∙◌}
use mathlib.Core.Bool.{true}
use lib.ListN.{get_or, drop_of_length-le}
use Rattle.tray_image.specs.TrayImage.{all_digits}
use Rattle.tray_image.proofs.Words.{digit_same, digit_more, no_digit, number_told, no_number}
use Rattle.tray_image.proofs.is_number.Goals as goal

pub loop-c-preserved : goal.loop-c-preserved
loop-c-preserved c = let word = c.args.word.now in
    let digit = sym (digit_same (get_or word c.loop-c.c-index 0)) ∙ sym c.is_ascii_digit.ensures.value ∙ c.if-not-is_ascii_digit.false in
    digit_more word c.loop-c.c-index c.loop-c-test.true digit ∙ c.loop-c.invariant

pub returns-then-not-is_ascii_digit : goal.returns-then-not-is_ascii_digit
returns-then-not-is_ascii_digit c = let word = c.args.word.now in
    let none = sym (digit_same (get_or word c.loop-c.c-index 0)) ∙ sym c.is_ascii_digit.ensures.value ∙ c.if-not-is_ascii_digit.true in
    no_number word (sym c.loop-c.invariant ∙ no_digit word c.loop-c.c-index c.loop-c-test.true none)

pub returns : goal.returns
returns c = let word = c.args.word.now in
    let none = drop_of_length-le word c.loop-c-test.false in
    let all : all_digits word ≡ true = sym (rw none at c.loop-c.invariant) in
    number_told word all
