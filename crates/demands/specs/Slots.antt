-- A TRAY BESIDE PLAIN SESSIONS: each pack does what a gauge by itself does.
--
-- A slot's pack, with its own events: "Readings, conversions, kind 6 samples and power-ons come as kinds 18, 19, 22 and 21, with a slot byte
-- ahead of the old payload. For Match, the search over the tray stops at the slot whose address matches."
use Rattle.std.specs.Prelude.{◌≡◌, List, ◌∷◌, ℕ, zero, suc, ◌<◌, eqb, length, get_or}
use Rattle.std.specs.Int.Bits.{bit_and}
use Rattle.numbers.specs.Choice.{either}
use Rattle.record.specs.declared.Form.{Form}
use Rattle.runs.specs.Record.{whole}
use Rattle.runs.specs.Run.{Did}
use Rattle.runs.specs.declared.Session.{Session}
use Rattle.runs.specs.SessionRecord.{loaded_with, did_of}
use Rattle.tray_record.specs.declared.Tray.{Tray}
use Rattle.tray_record.specs.Tray.{empty_tray, pack_of, one, tray_did}
use Rattle.intel_hex.specs.Theorems.{Bytes}
use Rattle.demands.specs.Call.{Call, Within}
use Rattle.demands.specs.Longer.{form_kind}
use Rattle.demands.specs.Alone.{reach_in}

-- a kind of a tray, and the old kind
pub data Stands : ℕ → ℕ → Type 0 where
  reading : Stands 18 2
  conversion : Stands 19 3
  sample : Stands 22 6
  power_on : Stands 21 5

-- what becomes of the tray itself: it has as many packs, and what is done closes its opening
pub record Closes (τ : Tray) (d : Did Tray) : Type 0 where
  pub count : d.state.count ≡ τ.count
  pub closed : d.state.closed ≡ either τ.closed (eqb d.answer 0)

-- the slot's pack does what the gauge of a plain session does, and the answer and the reply are the same
pub record AsOld (τ : Tray) (i : ℕ) (d : Did Tray) (f : Did Session) : Type 0 where
  pub answer : d.answer ≡ f.answer
  pub reply : d.reply ≡ f.reply
  pub pack : pack_of d.state i ≡ f.state.gauge
  pub opening : Closes τ d

-- in the state that any run leaves, with any room: an event of a slot that has a pack, and a transaction that the search matches to a slot
pub record SlotsAsOld : Type 0 where
  pub events : (c : Call Tray) → Within tray_did empty_tray c → (i : ℕ) → i < c.ran.state.count → (n m : ℕ) → Stands n m →
      (room : ℕ) (p : List ℕ)
      → AsOld c.ran.state i (tray_did c.ran.state room (whole n (i ∷ p))) (did_of (loaded_with (pack_of c.ran.state i)) room (whole m p))
  pub matched : (c : Call Tray) → Within tray_did empty_tray c → (i room : ℕ) (f : Form) (p : List ℕ) → reach_in c.ran.state f p ≡ one i
      → AsOld c.ran.state i (tray_did c.ran.state room (whole (form_kind f) p))
      (did_of (loaded_with (pack_of c.ran.state i)) room (whole (form_kind f) p))

-- ---- every pack, with any transaction, whomever it addresses: "Skip and net address reads go to every pack, and each reply byte is the bitwise AND of
-- theirs." So it is where the search matches a pack, since each other pack is not selected then, does nothing and replies FFh

-- the bitwise AND of n bytes; the line is high where nobody pulls it low
abbrev pub and_over : ℕ → (ℕ → ℕ) → ℕ
and_over zero byte = 0xff
and_over (suc n) byte = bit_and (and_over n byte) (byte n)

-- what a tray that a session s has left does, and what each of its packs does in a plain session
pub record EachAsPlain (s : List ℕ) (τ : Tray) (d : Did Tray) (plain : ℕ → Did Session) : Type 0 where
  pub answer : (i : ℕ) → i < τ.count → d.answer ≡ (plain i).answer
  pub pack : (i : ℕ) → i < τ.count → pack_of d.state i ≡ (plain i).state.gauge
  pub opening : Closes τ d
  pub size : (i : ℕ) → i < τ.count → length d.reply ≡ length (plain i).reply
  -- where s is of bytes, so that every reply is
  pub byte : Bytes s → (k : ℕ) → k < length d.reply
      → get_or d.reply k 0 ≡ and_over τ.count (λ i. get_or (plain i).reply k 0)

-- in the state that any run leaves, with any room: a transaction of either form
abbrev pub TransactionsAsPlain : Type 0
TransactionsAsPlain = (c : Call Tray) → Within tray_did empty_tray c → (room : ℕ) (f : Form) (p : List ℕ)
    → EachAsPlain c.bytes c.ran.state (tray_did c.ran.state room (whole (form_kind f) p))
    (λ i. did_of (loaded_with (pack_of c.ran.state i)) room (whole (form_kind f) p))
