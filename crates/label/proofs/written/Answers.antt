-- `label::written` meets its contract: a whole label is taken at once.
use mathlib.Core.Path.{◌≡◌, sym, ◌∙◌}
use mathlib.Core.List.{List}
use Prim.Native.Nat.{ℕ, ◌≤◌}
use lib.ListN.{length}
use Rattle.slices.specs.Slices.{part, laid_of}
use Rattle.slices.proofs.Laws.{put_whole, part_length}
use Rattle.state.specs.declared.Label.{Label}
use Rattle.label.specs.Label.{label_written_of}
use borrow.Author.Rules.{rules}
use Rattle.label.proofs.written.Goals as goal

whole : (l : Label) (a : ℕ) (bytes : List ℕ) {r : List ℕ} → a ≡ 0x20 → 16 ≤ length bytes → length l.shadow ≡ 16 → r ≡ part 16 bytes 0
    → r ≡ laid_of 0x20 0x30 l.shadow a bytes
unfolding laid_of
whole l a bytes e long sized h = h ∙ rw e (sym (put_whole l.shadow (part 16 bytes 0) (part_length 16 bytes 0 long ∙ sym sized)))

pub returns-then-bytes-ge16 : goal.returns-then-bytes-ge16
unfolding label_written_of
returns-then-bytes-ge16 c = let a = c.args in
    simp (c.if-not-locked.true, whole a.label a.a a.bytes.now c.if-a-eq32.true c.if-bytes-ge16.true (search rules) c.sixteen-whole.ensures)
