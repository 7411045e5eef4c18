-- What is proved of calls one after another, of a pack and of a tray. `theorems` of proofs/Theorems.antt is one value of this record.
use Rattle.std.specs.Prelude.{◌≡◌, List, [], ◌∷◌, ℕ, leb, length}
use Rattle.numbers.specs.Choice.{pick}
use Rattle.runs.specs.Record.{rec_of}
use Rattle.library.specs.declared.LibraryResult.{LibraryResult}
use Rattle.library.specs.Library.{KeptAs, kept_pack, kept_tray, Started, RecordDone}

-- a call with a record: what was handed over and lent, what it said, and what the buffers of state and reply held then
pub record LibraryCall : Type 0 where
  pub bytes : List ℕ
  pub room : List ℕ
  pub said : LibraryResult
  pub after : List ℕ
  pub last : List ℕ

module _ {S : Type 0} (k : KeptAs S) where
  -- each call finds the bytes of the state that the one before it left, and does what its contract says
  abbrev pub CallsDone : List ℕ → List LibraryCall → Type 0
  CallsDone state [] = Unit
  CallsDone state (c ∷ cs) = RecordDone k state c.bytes c.room c.said c.after c.last × CallsDone c.after cs

  -- the bytes that the last one left
  abbrev pub last_kept : List ℕ → List LibraryCall → List ℕ
  last_kept state [] = state
  last_kept state (c ∷ cs) = last_kept c.after cs

  -- what the records do one after another; fewer bytes than a header has do nothing
  abbrev pub all_done : S → List LibraryCall → S
  all_done σ [] = σ
  all_done σ (c ∷ cs) = all_done (pick (leb 4 (length c.bytes)) (k.did σ (length c.room) (rec_of c.bytes)).state σ) cs

  pub record CallAfterCall : Type 0 where
    -- docs/LIBRARY.md: "A state that an entry left is always taken by the next."
    pub taken : (room first : List ℕ) (calls : List LibraryCall) → Started k room 0 first → CallsDone first calls → k.number_of (last_kept first calls) ≡ 0
    -- and it is the one that the records come to, from the state before the first
    pub stands : (room first : List ℕ) (calls : List LibraryCall) → Started k room 0 first → CallsDone first calls →
        k.held (last_kept first calls) ≡ all_done k.first calls

pub record LibraryTheorems : Type 0 where
  pub pack : CallAfterCall kept_pack
  pub tray : CallAfterCall kept_tray
