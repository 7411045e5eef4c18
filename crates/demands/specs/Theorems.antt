-- WHAT IS PROVED: the theorems of documents 01 and 02, in the papers' own words. `theorems` of proofs/Theorems.antt is one value of this record.
--
-- A call is what a function's contract lets a caller learn; that it is, of each function, is `contracts`. Each statement has a page of its own, named
-- after its subject; this page has none that is not linked here.
use Rattle.std.specs.Prelude.{◌≡◌, ℕ}
use Rattle.params.specs.declared.Curves.{Curves}
use Rattle.state.specs.declared.Profile.{Profile}
use Rattle.conversion.specs.Meaning.{ConversionMeans}
use Rattle.registers.specs.Meaning.{RegistersMean}
use Rattle.record.specs.Meaning.{RecordMeans}
use Rattle.reading.specs.Meaning.{ReadingMeans}
use Rattle.reading.specs.Reading.{model_lines}
use Rattle.reading.specs.Product.{product_of}
use Rattle.reading.specs.Hundred.{Hundred}
use Rattle.reading.specs.Figures.{Hold, figures}
use Rattle.block1.specs.OffsetConversion.{offset_figures, OffsetRules}
use Rattle.gauge.specs.Profiles.{OnlyTwo}
use Rattle.gauge.specs.ImageAging.{PackAging}
use Rattle.gauge.specs.ImageProfiles.{ImagesShare}
use Rattle.gauge.specs.ImageOffset.{OffsetUncarried}
use Rattle.runs.specs.Record.{Rec}
use Rattle.runs.specs.Run.{Did}
use Rattle.runs.specs.Divided.{Divided}
use Rattle.runs.specs.SessionRecord.{did_of}
use Rattle.session_run.specs.SessionRun.{empty_of}
use Rattle.tray_record.specs.Tray.{empty_tray, tray_did}
use Rattle.mending.specs.Worth.{AcceptedTheorem, UnchangedTheorem, TwiceTheorem, ArrangedTheorem, CappedTheorem, KeptTheorem, ByCallTheorem}
use Rattle.mending.specs.Worth.{ListingTheorem}
use Rattle.intel_hex.specs.Theorems.{GoodLines, RoundTrip, ExportedText}
use Rattle.demands.specs.Contracts.{Contracts}
use Rattle.demands.specs.NoSlack.{NoSlack}
use Rattle.demands.specs.Crc.{CrcRule}
use Rattle.demands.specs.Engines.{EnginesEqual}
use Rattle.demands.specs.Cases.{ClassesHold}
use Rattle.demands.specs.Call.{WithinOrOver, RunsExist}
use Rattle.demands.specs.TakeOut.{OutAnswers}
use Rattle.demands.specs.Bus.{BusRules}
use Rattle.demands.specs.Words.{WordsMean}
use Rattle.demands.specs.Cycles.{CycleRules}
use Rattle.demands.specs.Offset.{OffsetRuns}
use Rattle.demands.specs.Printed.{PrintedLines}
use Rattle.demands.specs.Demand1.{session_most, tray_most, Demand1}
use Rattle.demands.specs.Demand2.{Demand2, Demand2Met, ReadBackMet, TrayDemand2, SlotCarriedMet, SlotReadBackMet}
use Rattle.demands.specs.Numbers.{EachNumber}
use Rattle.demands.specs.Demand3.{Demand3, Demand3Met, TrayDemand3, TrayDemand3Met, WholeTrayDemand3, WholeTrayDemand3Met}
use Rattle.demands.specs.Demand3.{WholeTrayRefusedMet, EveryTrayOpens}
use Rattle.demands.specs.Slots.{SlotsAsOld, TransactionsAsPlain}
use Rattle.demands.specs.Single.{SingleAsPlain, SingleMet}
use Rattle.demands.specs.Alone.{Alone, AloneMet}
use Rattle.demands.specs.Isolation.{Isolation, IsolationThroughout, IsolationMet}
use Rattle.demands.specs.Longer.{Longer, LongerMet}
use Rattle.demands.specs.Slow.{Slow}
use Rattle.demands.specs.Hundred.{FullPack, HundredMet}
use Rattle.demands.specs.Aging.{OwnAs}
use Rattle.demands.specs.Saved.{SavedCells}
use Rattle.demands.specs.Programming.{JudgedAsRecord, BenchTheorem, DoneTheorem, BenchMet}
use Rattle.demands.specs.Mending.{MendedTheorem, MendingMet}
use Rattle.demands.specs.RoundTrip.{RoundTripMet}
use Rattle.demands.specs.History.{Pack, of_gauge, of_slot, HistoryHolds}
use Rattle.demands.specs.Books.{FromEvents, NoWider, BooksClose, BooksMet, BooksOver1024th}
use Rattle.demands.specs.Stored.{EepromHolds, EepromMet}
use Rattle.demands.specs.Stepwise.{Stepwise}

-- ---- document 01

pub record OfSessions : Type 0 where
  -- a call of `run` is within 32,768 bytes, or over; each session has one, and so has each of its moments
  pub bounded : WithinOrOver did_of empty_of
  pub exist : RunsExist did_of empty_of
  -- "No input can make it misbehave. Every session, however malformed, gets one numbered answer per record, as document 01 fixes it. A refused
  -- record changes neither the gauge nor the reply room."
  pub demand_1 : Demand1 session_most did_of empty_of
  -- the answer numbers "when, and only when"; of trays too
  pub numbers : EachNumber
  -- "From an accepted pack image, every reply byte, register, flag and EEPROM byte after each event is what the DS2781 sheet, as condensed in
  -- document 01, works out. The image taken out at any moment, read into a fresh gauge, gives the state that a power-on would have given there."
  pub demand_2 : Demand2
  -- .. and there is such a moment, of each profile
  pub read_back_met : (f : Profile) → ReadBackMet f
  pub demand_2_met : Demand2Met
  -- "Before an image was accepted the answer is 5, then 9 for a room under 60; nothing is written."; of trays too
  pub out : OutAnswers
  -- "Input bytes `00 00 05 00 00 00 63 00 01` print exactly: .."
  pub printed : PrintedLines
  -- "Labels and gauging keep apart. Two sessions with the same accepted image first, room for all they ask and the same fences in the same order, which
  -- between neighbouring fences and after the last hold the same label events in the same order and the same gauge events in the same order, mixed
  -- differently: each event gets the same answer and reply bytes in both, those that demand 2 gives, and both end in the same state." And there are such
  -- sessions of each profile; the classes are tried at their edges
  pub demand_3 : Demand3
  pub demand_3_met : (f : Profile) → Demand3Met f
  pub classes : ClassesHold
  -- "55h with the 8 own address bytes selects"; what a transaction, a lock and a power-on cannot change
  pub bus : BusRules
  -- "It uses a table of 256 entries, each checked against the bitwise rule."
  pub crc : CrcRule
  -- "Marked (*) are proved of the definitions, as one table under one statement."
  pub figures : Hold figures

-- ---- document 01, in signed numbers: what is kept with an offset is what the paper says

pub record OfSigned : Type 0 where
  -- "c = raw + COB (7Bh, signed), clamped to -32,768..32,767. .." and all steps of a conversion that work on signed numbers
  pub conversion : ConversionMeans
  -- "temperature to -1,024..1,023 eighths of a degree. .." and all steps of a reading that do
  pub reading : ReadingMeans
  -- "each a signed 32-bit count"; [3]: "TBP12 ≤ TBP23 ≤ TBP34 ≤ 40 as signed bytes"
  pub records : RecordMeans
  -- IAVG, TEMP and CURRENT as they are read
  pub registers : RegistersMean
  -- "rounded down", "rounded up", "clamped to", and how bytes lie
  pub words : WordsMean

-- ---- document 02, a tray: request [8]

pub record OfTrays : Type 0 where
  pub bounded : WithinOrOver tray_did empty_tray
  pub exist : RunsExist tray_did empty_tray
  -- the three demands, of "the tray's whole state"
  pub demand_1 : Demand1 tray_most tray_did empty_tray
  pub demand_2 : TrayDemand2
  pub demand_2_met : SlotCarriedMet
  pub read_back_met : SlotReadBackMet
  pub demand_3 : TrayDemand3
  pub demand_3_met : TrayDemand3Met
  -- the third of whole sessions, in the paper's words; and every tray session has an opening
  pub whole_demand_3 : WholeTrayDemand3
  pub whole_demand_3_met : WholeTrayDemand3Met
  pub whole_demand_3_refused : WholeTrayRefusedMet
  pub opens : EveryTrayOpens
  -- a slot's pack does what a gauge by itself does
  pub slots : SlotsAsOld
  -- "Skip and net address reads go to every pack, and each reply byte is the bitwise AND of theirs."
  pub transactions : TransactionsAsPlain
  -- a tray of one pack answers a session as a plain gauge does
  pub single : SingleAsPlain
  pub single_met : SingleMet
  -- "A slot's event, or a matched transaction, changes no other pack."
  pub alone : Alone
  pub alone_met : AloneMet
  -- "Change one pack's image and slot events at will, its address and the acceptance of each record kept: replies to transactions matched to the
  -- others, and the others' states, stay the same."
  pub isolation : Isolation
  pub throughout : IsolationThroughout
  pub isolation_met : IsolationMet

-- ---- document 02, of what a gauge counts and shows

pub record OfGauges : Type 0 where
  -- [1]: "A full pack should say 100. .. 01 rounds the ACR down at full detection. It is to be rounded up .. Where D is above 0, a very small Full40 no
  -- longer drops CHGTF at once." Of one reading after full, and over a run
  pub hundred : Hundred
  pub full_pack : FullPack
  pub full_pack_met : HundredMet did_of empty_of of_gauge
  -- [4]: "Work the three lines out by the number of degrees in each segment and a product. Nothing anyone can see changes, crossed breakpoints written
  -- over the bus included."
  pub product : (curves : Curves) (t : ℕ) → product_of curves t ≡ model_lines curves t
  -- [5]: "Two engines, the plain repetition and a quick one that works out whole stretches at once, are proved equal for every state and every n
  -- from 1 to 64."
  pub engines : EnginesEqual
  -- [5]: "A sample of n ticks means n conversions of that reading"
  pub slow : Slow
  -- [7]: "On the 1024th, the previous c is shown, averaged and counted; the raw value is ignored. The first conversion after an ACR write, by bus only,
  -- shows and averages its c but adds nothing to the count, AB included. .. power-on clears both"
  pub offset : OffsetRules
  pub offset_runs : OffsetRuns
  -- "The image carries neither"
  pub offset_images : OffsetUncarried
  pub offset_figures_lem : Hold offset_figures
  -- [11]: ".. a transaction allowed in both forms gives one answer"
  pub longer : Longer
  pub longer_met : LongerMet
  -- [12]: "Only two things differ from 01 here .. negative blanking takes in 25 µV itself, so -16 counts as 0; and a cycle counter"
  pub profiles : OnlyTwo
  -- [12]: "one for each twice Full40 that ACR has fallen, counted as ageing counts it, as many steps as fit, the rest carried"
  pub cycles : CycleRules
  -- [12]: "Image kind 8, its family code .. as in 000's full sheet, picks the profile for that pack. .. What both profiles share is proved once."
  pub images : ImagesShare
  -- [13]: "A write at 14h is from now on dropped ..; later results follow the gauge's own AS. Saved AS is honoured at power-on as before."
  pub aging : PackAging
  pub own_as : OwnAs

-- ---- document 02, at the bench: requests [2], [9] and [10]

pub record OfBench : Type 0 where
  -- "first what an image record would get (4, 6, 7, later 10)"
  pub judged : JudgedAsRecord
  -- "Run through the gauge it ends with exactly those EEPROM bytes in block 1, and block 0, saved cells and locks unchanged."
  pub programmed : BenchTheorem
  pub programmed_done : DoneTheorem
  pub programmed_met : BenchMet
  -- "a tool which writes a 60-byte image that is accepted"; "An acceptable image with AS in range comes out unchanged with no lines. Mending twice is as
  -- mending once."
  pub mended : MendedTheorem
  pub mended_calls : ByCallTheorem
  pub mended_lines : ListingTheorem
  pub accepted : AcceptedTheorem
  pub unchanged : UnchangedTheorem
  pub twice : TwiceTheorem
  pub arranged : ArrangedTheorem
  pub capped : CappedTheorem
  pub kept : KeptTheorem
  pub mending_met : MendingMet
  -- "Import reads just this layout, record order free, and gives back the 48 bytes of every export."
  pub lines : GoodLines
  pub exported : ExportedText
  pub round_trip : RoundTrip
  pub round_trip_met : RoundTripMet

-- ---- document 02, the books: request [14]

-- of a pack that a run holds
pub record OfPack {S : Type 0} (did : S → ℕ → Rec → Did S) (start : S) (pack : Pack S) : Type 0 where
  -- "the conversions in the history": what came to the pack between two moments of a run, worked out from the records alone, is what it went through
  pub history : HistoryHolds did start pack
  -- "Over any run of accepted events with no power-on, no ACR write, no full or empty correction and no clamp at either end, the final count .. less
  -- the first equals the sum .."
  pub books : BooksClose did start pack
  -- "no byte of a block's EEPROM changes while the block is locked, and each byte is always its image value or .. the shadow value at the last such copy"
  pub eeprom : EepromHolds did start pack

pub record OfBooks : Type 0 where
  -- 01: "if RARC divided by 4, rounded down, has changed, ACR and AS go to the saved cells"; [12]: the cycle counter is "saved together with" them
  pub saved : SavedCells
  -- "The sum is defined from events and shadow bytes, not from the count." And the conditions are no wider than they have to be
  pub from_events : FromEvents
  pub no_wider : NoWider
  pub session : OfPack did_of empty_of of_gauge
  pub slots : (j : ℕ) → OfPack tray_did empty_tray (of_slot j)
  pub books_met : BooksMet did_of empty_of of_gauge
  pub books_over_1024th : BooksOver1024th did_of empty_of of_gauge
  pub slot_books_met : BooksMet tray_did empty_tray (of_slot 1)
  pub eeprom_met : EepromMet did_of empty_of of_gauge
  pub slot_eeprom_met : EepromMet tray_did empty_tray (of_slot 1)

-- ---- one record at a time, by no paper: what a run can be divided into

pub record OfSteps : Type 0 where
  -- input that comes read by read has the records of the whole
  pub divided : Divided
  -- a run is its steps, and goes on from where it was stopped; no record asks more than 256 bytes of reply
  pub sessions : Stepwise did_of 256
  pub trays : Stepwise tray_did 256

-- ---- all of them

pub record Theorems : Type 0 where
  pub contracts : Contracts
  -- "that any two results it allows are equal is proved"
  pub no_slack : NoSlack
  pub sessions : OfSessions
  pub signed : OfSigned
  pub trays : OfTrays
  pub gauges : OfGauges
  pub bench : OfBench
  pub books : OfBooks
  pub steps : OfSteps
