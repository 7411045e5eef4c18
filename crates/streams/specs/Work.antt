-- What a program makes of the bytes that it read: a work, which is asked with the bytes and a room for what is said of them.
use Rattle.std.specs.Prelude.{◌≡◌, Bool, Result, List, [], ℕ, ◌≤◌, length}
use denote.Ref.{Bor, MutBor}
use Rattle.numbers.specs.Choice.{pick}
use Rattle.streams.specs.declared.Said.{Said}
use Rattle.streams.specs.declared.Unread.{Unread}
use Rattle.streams.specs.Streams.{Speech, error, unread_text, Saying}

-- ---- of one input

-- a work that may be asked with a room of so many bytes
abbrev pub TakesRoom : (Bor (List ℕ) → MutBor (List ℕ) → Type 0) → ℕ → Type 0
TakesRoom pre size = (bytes : Bor (List ℕ)) (room : MutBor (List ℕ)) → length room.now ≡ size → pre bytes room

-- a work that says what `speech` has, of any bytes
abbrev pub Speaks : (Bor (List ℕ) → MutBor (List ℕ) → Said → MutBor (List ℕ) → Type 0) → (List ℕ → Speech) → Type 0
Speaks post speech =
    (bytes : Bor (List ℕ)) (room : MutBor (List ℕ)) (said : Said) (after : MutBor (List ℕ)) →
    post bytes room said after → Saying (speech bytes.now) room.now said after.now

-- of inputs of so many bytes or more the same is made
abbrev pub AlikeFrom : {A : Type 0} → ℕ → (List ℕ → A) → Type 0
AlikeFrom size f = (s s' : List ℕ) → size ≤ length s → size ≤ length s' → f s ≡ f s'

-- what is said of an input, or where a read of it failed
abbrev pub read_speech : List ℕ → Bool → (List ℕ → Speech) → List ℕ → Speech
read_speech name failed speech s = pick failed (error (unread_text name)) (speech s)

-- ---- of two files

abbrev pub TakesRoomOfTwo : (Bor (List ℕ) → Bor (List ℕ) → MutBor (List ℕ) → Type 0) → ℕ → Type 0
TakesRoomOfTwo pre size = (one other : Bor (List ℕ)) (room : MutBor (List ℕ)) → length room.now ≡ size → pre one other room

abbrev pub SpeaksOfTwo : (Bor (List ℕ) → Bor (List ℕ) → MutBor (List ℕ) → Said → MutBor (List ℕ) → Type 0) → (List ℕ → List ℕ → Speech) → Type 0
SpeaksOfTwo post speech =
    (one other : Bor (List ℕ)) (room : MutBor (List ℕ)) (said : Said) (after : MutBor (List ℕ)) →
    post one other room said after → Saying (speech one.now other.now) room.now said after.now

-- of the first or the second file alone, whatever the other is
abbrev pub AlikeOfTwoFrom : ℕ → ℕ → (List ℕ → List ℕ → Speech) → Type 0
AlikeOfTwoFrom one other speech = ((t : List ℕ) → AlikeFrom one (λ s. speech s t)) × ((s : List ℕ) → AlikeFrom other (speech s))

-- of a file that could not be read something was said by its name, and there is nothing more to say
abbrev pub read_speech_of_two : Bool → (List ℕ → List ℕ → Speech) → List ℕ → List ℕ → Speech
read_speech_of_two unread speech s t = pick unread (error []) (speech s t)

-- ---- of a program

abbrev Got : Type 0
Got = Result ℕ Unread

-- a program that takes what was read into a room of the first size, and a room of the second for what it says
abbrev pub TakesInput : (Bor (List ℕ) → Got → MutBor (List ℕ) → Type 0) → ℕ → ℕ → Type 0
TakesInput pre size most =
    (input : Bor (List ℕ)) (got : Got) (room : MutBor (List ℕ)) → length input.now ≡ size → length room.now ≡ most → pre input got room

abbrev pub TakesFiles : (Bor (List ℕ) → Got → Bor (List ℕ) → Got → MutBor (List ℕ) → Type 0) → ℕ → ℕ → ℕ → Type 0
TakesFiles pre size other_size most =
    (first : Bor (List ℕ)) (one : Got) (second : Bor (List ℕ)) (other : Got) (room : MutBor (List ℕ)) →
    length first.now ≡ size → length second.now ≡ other_size → length room.now ≡ most → pre first one second other room
