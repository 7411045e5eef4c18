-- What a program reads, and what it says: one text, on standard output or on standard error.
use Rattle.std.specs.Prelude.{◌≡◌, List, [], ◌++◌, ℕ, ◌-◌, ◌≤◌, min, ltb, length, take}
use Rattle.numbers.specs.Choice.{pick}
use Rattle.slices.specs.Slices.{part, put}
use Rattle.digits.specs.Ascii.{ascii}
use Rattle.digits.specs.Digits.{decimal_text}
use Rattle.streams.specs.declared.Stream.{Stream}
use Rattle.streams.specs.declared.Stream.TheVariants.{Output, Error}
use Rattle.streams.specs.declared.Said.{Said}

-- the first bytes of the room, so many, are what was read of standard input s: all of s, or as much of it as there is room for
pub record Front (s room : List ℕ) (count : ℕ) : Type 0 where
  pub same : take (length room) s ≡ take count room

-- a count, at most the room's length. That the bytes counted are so many is said for a caller that takes them out
pub record CountWithin (count : ℕ) (room : List ℕ) (n : ℕ) : Type 0 where
  pub least : n ≡ min count (length room)
  pub fits : n ≤ length room
  pub whole : n ≡ length (take n room)

-- a text, and where it goes
pub record Speech : Type 0 where
  pub stream : Stream
  pub text : List ℕ

abbrev pub output : List ℕ → Speech
output text = record { stream = Output; text = text }

abbrev pub error : List ℕ → Speech
error text = record { stream = Error; text = text }

unfoldable pub unread_text : List ℕ → List ℕ
unread_text name = name ++ ascii ": cannot read standard input\n"

-- a refusal: a number, and what it means
abbrev pub refused_text : ℕ → List ℕ → List ℕ
refused_text number words = decimal_text number ++ (ascii ": " ++ (words ++ ascii "\n"))

-- the name under which a file is made before it takes its own: that one, and `.new`; none where it would be too long
unfoldable pub beside_text : List ℕ → List ℕ
beside_text name = pick (ltb 4000 (length name)) [] (name ++ ascii ".new")

-- the text stands at the front of the room, and the code says how many bytes it is, and where it goes
pub record Saying (what : Speech) (before : List ℕ) (said : Said) (after : List ℕ) : Type 0 where
  pub stream : said.stream ≡ what.stream
  pub counted : said.count ≡ length what.text
  pub written : after ≡ put before 0 what.text

-- what stood from one place up to another was moved to the front of the room, and is so many bytes
pub record RestKept (room : List ℕ) (from end count : ℕ) (after : List ℕ) : Type 0 where
  pub counted : count ≡ end - from
  pub written : after ≡ put room 0 (part (end - from) room from)
