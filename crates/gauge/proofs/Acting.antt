-- What a transaction does to a gauge, and what it replies, from what the functions below it promise.
use mathlib.Core.Path.{◌≡◌, refl, sym, ap, ◌∙◌}
use mathlib.Core.Bool.{Bool, true, false}
use mathlib.Core.List.{List, ◌++◌}
use Prim.Native.Nat.{ℕ, ◌-◌, min}
use lib.ListN.{length, drop}
use Rattle.numbers.specs.Choice.{pick, both}
use Rattle.numbers.proofs.Bounds.{both_true}
use Rattle.slices.specs.Slices.{part}
use Rattle.slices.proofs.Laws.{part_rest, drop_lower}
use Rattle.bus.specs.declared.Command.{Command}
use Rattle.bus.specs.declared.Command.TheVariants.{Read, Write, Copy, Recall, Lock, Nothing}
use Rattle.bus.specs.declared.Transaction.{Transaction}
use Rattle.replies.specs.Reply.{selected_of, replied_of}
use Rattle.replies.proofs.Listed.{listed_length}
use Rattle.gauge.specs.declared.Gauge.{Gauge}
use Rattle.gauge.specs.Act.{ran_by, can_change, ran_of, act_of, reply_of}

-- ---- a function command did its work at the address and with the bytes of a transaction

pub ran_by_lem : (x : Command) (g r : Gauge) (t : Transaction) (master : List ℕ) (a : ℕ) →
    t.command ≡ x → a ≡ t.address → r ≡ ran_by x g a (drop t.from master) → r ≡ ran_of g t master
unfolding ran_of
ran_by_lem x g r t master a e f k = rw (e, ← f) k

-- the bytes that are to be written
pub bytes_after : (master : List ℕ) (i from n : ℕ) → i ≡ from → n ≡ min i (length master) → part (length master - n) master n ≡ drop from master
bytes_after master i from n e f = part_rest master n ∙ rw (f, e) (drop_lower from master)

-- ---- by whether it is selected

module _ (g : Gauge) (t : Transaction) (master : List ℕ) where
  abbrev chosen : Bool
  chosen = selected_of g.common.address t master

  pub acts : both chosen (can_change t.command) ≡ true → ran_of g t master ≡ act_of g t master
  unfolding act_of
  acts e = sym (ap (λ (b : Bool). pick b (ran_of g t master) g) (both_true chosen (can_change t.command) e).0)

  pub replies : (room : List ℕ) {b : Bool} {after : List ℕ} → b ≡ chosen
      → after ≡ replied_of b g.common g.label g.meter t ++ drop t.count room → after ≡ reply_of g t master ++ drop t.count room
  unfolding reply_of
  replies room e h = h ∙ ap (λ (c : Bool). replied_of c g.common g.label g.meter t ++ drop t.count room) e

  -- a gauge that is not selected, or whose command changes nothing, stays
  pub act_idle : both chosen (can_change t.command) ≡ false → act_of g t master ≡ g
  unfolding act_of ran_of
  act_idle = by chosen t.command
    where
      by : (b : Bool) (x : Command) → both b (can_change x) ≡ false → pick b (ran_by x g t.address (drop t.from master)) g ≡ g
      by false x e = refl
      by true Read e = refl
      by true Write e = cc
      by true Copy e = cc
      by true Recall e = cc
      by true Lock e = cc
      by true Nothing e = refl

-- a reply has as many bytes as are read
pub reply_length : (g : Gauge) (t : Transaction) (master : List ℕ) → length (reply_of g t master) ≡ t.count
unfolding reply_of
reply_length g t master = listed_length _ 0 t.count
