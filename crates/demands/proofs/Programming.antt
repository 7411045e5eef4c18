-- Programming packs at the bench, proved: what each of the four records does.
use mathlib.Core.Path.{◌≡◌, refl, sym, ap, ◌∙◌}
use mathlib.Core.Bool.{Bool, true, false}
use mathlib.Core.List.{List, [], ◌∷◌, ◌++◌}
use Prim.Native.Nat.{ℕ, ◌+◌, ◌-◌, ◌≤◌, ◌<◌, zero-le}
use native.Mathlib.Nat.{sub-zero}
use native.Mathlib.Omega.{arith}
use borrow.Author.Tests.{le-leb, le-ltb, lt-ltb, ltb-true, ltb-false}
use lib.Dec.{ltb}
use lib.ListN.{length, take, drop}
use lib.Seq.{take_at, take_all, ext_get_or}
use Rattle.std.specs.Prelude.{Ok}
use Rattle.state.specs.declared.Profile.TheVariants.{Ds2781}
use Rattle.slices.specs.Slices.{laid_of}
use Rattle.slices.proofs.Laws.{put_whole}
use Rattle.label.proofs.Kept.{label_written_elsewhere, label_copied_elsewhere}
use Rattle.block1.proofs.Kept.{written_above}
use Rattle.state.specs.State.{powered_of}
use Rattle.label.specs.Label.{in_label, in_block}
use Rattle.block1.specs.Block1.{reaches_of, lock_written_of, block_written_of, block_copied_of, meter_copied_of, reblocked_of}
use Rattle.registers.specs.Registers.{meter_byte}
use Rattle.bus.specs.declared.Rom.TheVariants.{Skip}
use Rattle.bus.specs.declared.Transaction.{Transaction}
use Rattle.bus.specs.Ask.{rom_by, command_of, asked_at, asked_of}
use Rattle.replies.specs.Reply.{read_byte, selected_of, source_byte, listed, replied_of}
use Rattle.replies.proofs.Listed.{listed_length, listed_at}
use Rattle.gauge.specs.declared.Gauge.{Gauge}
use Rattle.gauge.specs.Gauge.{with_meter, written_of, copied_of}
use Rattle.gauge.specs.Act.{ran_by, ran_of, act_of, reply_of}
use Rattle.gauge.specs.Image.{image_of}
use Rattle.gauge.proofs.Reached.{accepted_length, image_sized}
use Rattle.record.specs.declared.Event.TheVariants.{Transact}
use Rattle.record.specs.Image.{image_size}
use Rattle.record.specs.Record.{kind_of, taken_of}
use Rattle.runs.specs.Record.{Rec, whole, recs_of, record_of}
use Rattle.runs.specs.Run.{Did, silently, line_of, lines_after, end_after}
use Rattle.runs.proofs.Records.{recs_record}
use Rattle.preset_session.specs.PresetSession.{Written, write_done, write_payload, copy_payload, read_payload}
use Rattle.preset_session.specs.PresetSession.{programming_of, programming_size, preset_answer, Granted}
use Rattle.preset_session.proofs.Laws.{granted, done, programming_length}
use Rattle.runs.specs.declared.Session.{Session}
use Rattle.runs.specs.SessionRecord.{loaded_with, did_of}
use Rattle.session_run.specs.SessionRun.{empty_of}
use Rattle.demands.specs.Call.{Call, Within, lines_in}
use Rattle.demands.proofs.Moments.{running, tells}
use Rattle.demands.proofs.Demand2.{did_image, taken_image}
use Rattle.demands.specs.Programming.{Bench, Set, bench_lines, Answers, BenchHolds, BenchTheorem, DoneTheorem}

-- ---- a transaction after CCh: a read count, a command, an address byte, and bytes

abbrev skipped : ℕ → ℕ → ℕ → Transaction
skipped count command a = record { start = 1; from = 3; address = a; rom = Skip; command = command_of command; count = count }

module _ (g : Gauge) (count command a : ℕ) (bytes : List ℕ) where
  abbrev payload : List ℕ
  payload = count ∷ 0xcc ∷ command ∷ a ∷ bytes

  taken : count ≤ 64 → length bytes ≤ 61 → taken_of 4 true payload ≡ Ok (Transact (skipped count command a))
  unfolding taken_of kind_of asked_of rom_by asked_at
  taken few short =
      rw (
        le-leb 1 (length payload) (omega arith),
        le-leb (length payload) 65 (omega arith),
        le-leb count 64 few,
        le-ltb (length (0xcc ∷ command ∷ a ∷ bytes)) 3 (omega arith),
      )
      refl

  -- with room for its reply
  did : (room : ℕ) → count ≤ 64 → length bytes ≤ 61 → count ≤ room
      → did_of (loaded_with g) room (whole 4 payload)
      ≡ record {
        state = loaded_with (ran_by (command_of command) g a bytes);
        answer = 0;
        reply = replied_of true g.common g.label g.meter (skipped count command a);
      }
  unfolding did_of act_of ran_of reply_of selected_of
  did room few short fits = rw (taken few short, le-ltb room count fits) refl

  -- and without it
  undone : (room : ℕ) → count ≤ 64 → length bytes ≤ 61 → room < count → did_of (loaded_with g) room (whole 4 payload) ≡ silently (loaded_with g) 9
  unfolding did_of
  undone room few short over = rw (taken few short, lt-ltb room count over) refl

-- ---- 32 bytes at 60h of a gauge whose block 1 is not locked

-- a gauge with other bytes in block 1
abbrev reblocked : Gauge → List ℕ → List ℕ → Gauge
reblocked g shadow eeprom = with_meter g (reblocked_of g.meter (record { shadow = shadow; eeprom = eeprom }))

module _ (g : Gauge) (unlocked : g.meter.cells.locks.bl1 ≡ false) where
  abbrev shadow : List ℕ
  shadow = g.meter.cells.block.shadow

  module _ (wanted : List ℕ) (all : length wanted ≡ 32) (sized : length shadow ≡ 32) where
    laid : laid_of 0x60 0x80 shadow 0x60 wanted ≡ wanted
    unfolding laid_of
    laid = rw (take_all 0x20 wanted (omega arith)) (put_whole shadow wanted (all ∙ sym sized))

    written : written_of g 0x60 wanted ≡ reblocked g wanted g.meter.cells.block.eeprom
    unfolding written_of block_written_of lock_written_of reaches_of
    written =
        rw (label_written_elsewhere g.label g.common.bl0 0x60 wanted (omega arith), written_above g.meter 0x60 wanted (omega arith), unlocked, laid)
        refl

  copied : copied_of g 0x60 ≡ reblocked g shadow shadow
  unfolding copied_of meter_copied_of block_copied_of in_label in_block
  copied = rw (label_copied_elsewhere g.label g.common.bl0 0x60 refl, unlocked) refl

  abbrev found : ℕ → ℕ
  found i = read_byte g.common g.label g.meter (0x60 + i)

  read : length shadow ≡ 32 → listed found 0 32 ≡ shadow
  unfolding read_byte meter_byte in_label in_block
  read sized =
      ext_get_or 0 (listed found 0 32) shadow (listed_length found 0 32 ∙ sym sized)
      (λ i b. let below : i < 32 = omega (arith, listed_length found 0 32) in
      let z : 0 + i ≡ i = omega arith in
      let back : 0x60 + i - 0x60 ≡ i = omega arith in
      listed_at found 0 32 i below
      ∙ rw (
        z,
        le-leb 0x20 (0x60 + i) (omega arith),
        le-ltb (0x60 + i) 0x30 (omega arith),
        le-ltb (0x60 + i) 0x20 (omega arith),
        le-leb 0x60 (0x60 + i) (omega arith),
        lt-ltb (0x60 + i) 0x80 (omega arith),
        back,
      ) refl)

-- ---- three records that are done and reply nothing, and a last one

module _ (room : ℕ) where
  quiet : (σ τ : Session) (r : Rec) (rs : List Rec) → did_of σ room r ≡ silently τ 0 → end_after did_of σ room (r ∷ rs) ≡ end_after did_of τ room rs
  quiet σ τ r rs does =
      ap (λ (d : Did Session). end_after did_of d.state (room - length d.reply) rs) does ∙ ap (λ (k : ℕ). end_after did_of τ k rs) (sub-zero room)

  module _ (σ₁ σ₂ σ₃ σ₄ : Session) (p q r s : Rec) (one : did_of σ₁ room p ≡ silently σ₂ 0) (two : did_of σ₂ room q ≡ silently σ₃ 0)
      (three : did_of σ₃ room r ≡ silently σ₄ 0) where
    lines : lines_after did_of σ₁ room (p ∷ q ∷ r ∷ s ∷ [])
        ≡ line_of p (silently σ₂ 0) ∷ line_of q (silently σ₃ 0) ∷ line_of r (silently σ₄ 0) ∷ line_of s (did_of σ₄ room s) ∷ []
    lines = simp (one, two, three, sub-zero)

    end : end_after did_of σ₁ room (p ∷ q ∷ r ∷ s ∷ []) ≡ (did_of σ₄ room s).state
    end = quiet σ₁ σ₂ p (q ∷ r ∷ s ∷ []) one ∙ quiet σ₂ σ₃ q (r ∷ s ∷ []) two ∙ quiet σ₃ σ₄ r (s ∷ []) three

-- ---- the four records

module _ {image wanted room : List ℕ} {said : Written} {after : List ℕ} {c : Call Session} (g : Granted image wanted (length room))
    (b : Bench image wanted room said after c) where
  writes_all : preset_answer image wanted (length room) ≡ write_done
  writes_all = done image wanted (length room) g

  size : length image ≡ image_size
  size = accepted_length Ds2781 image g.accepted

  bytes : c.bytes ≡ programming_of image wanted
  bytes =
      b.session ∙ ap (take programming_size) b.wrote.written
      ∙ rw writes_all (take_at (programming_of image wanted) (drop programming_size room) programming_size (programming_length image wanted size g.all))

  within : Within did_of empty_of c
  within =
      let e = ap length bytes ∙ programming_length image wanted size g.all in
      record { allowed = b.run; short = omega arith; lent = omega (arith, b.lent) }

  records : recs_of c.bytes ≡ whole 1 image ∷ whole 4 (write_payload wanted) ∷ whole 4 copy_payload ∷ whole 4 read_payload ∷ []
  records =
      ap recs_of bytes ∙ recs_record 1 image (record_of 4 (write_payload wanted) ++ (record_of 4 copy_payload ++ record_of 4 read_payload))
      ∙ ap (λ (rs : List Rec). whole 1 image ∷ rs) (recs_record 4 (write_payload wanted) (record_of 4 copy_payload ++ record_of 4 read_payload)
      ∙ ap (λ (rs : List Rec). whole 4 (write_payload wanted) ∷ rs) (recs_record 4 copy_payload (record_of 4 read_payload)
      ∙ ap (λ (rs : List Rec). whole 4 copy_payload ∷ rs) (recs_record 4 read_payload [])))

  -- the gauge after the image, after the write and after the copy
  abbrev g₁ : Gauge
  g₁ = image_of Ds2781 image

  abbrev g₂ : Gauge
  g₂ = reblocked g₁ wanted g₁.meter.cells.block.eeprom

  abbrev g₃ : Gauge
  g₃ = reblocked g₁ wanted wanted

  writable : g₁.meter.cells.locks.bl1 ≡ false
  unfolding image_of powered_of
  writable = g.unlocked

  module _ (n : ℕ) where
    images : did_of empty_of n (whole 1 image) ≡ silently (loaded_with g₁) 0
    images = did_image Ds2781 image n (taken_image Ds2781 image ∙ g.accepted)

    writes : did_of (loaded_with g₁) n (whole 4 (write_payload wanted)) ≡ silently (loaded_with g₂) 0
    unfolding command_of
    writes =
        did g₁ 0 0x6c 0x60 wanted n (omega arith) (omega (arith, g.all)) zero-le
        ∙ ap (λ (g : Gauge). silently (loaded_with g) 0) (written g₁ writable wanted g.all (image_sized Ds2781 image size).block.shadow)

    copies : did_of (loaded_with g₂) n (whole 4 copy_payload) ≡ silently (loaded_with g₃) 0
    unfolding command_of
    copies = did g₂ 0 0x48 0x60 [] n (omega arith) (omega arith) zero-le ∙ ap (λ (g : Gauge). silently (loaded_with g) 0) (copied g₂ writable)

    reads : 32 ≤ n → did_of (loaded_with g₃) n (whole 4 read_payload) ≡ record { state = loaded_with g₃; answer = 0; reply = wanted }
    unfolding command_of source_byte
    reads fits =
        did g₃ 32 0x69 0x60 [] n (omega arith) (omega arith) fits
        ∙ ap (λ (l : List ℕ). record { state = loaded_with g₃; answer = 0; reply = l }) (read g₃ writable g.all)

    refuses : n < 32 → did_of (loaded_with g₃) n (whole 4 read_payload) ≡ silently (loaded_with g₃) 9
    refuses over = undone g₃ 32 0x69 0x60 [] n (omega arith) (omega arith) over

  -- ---- the run

  abbrev n : ℕ
  n = length c.room

  -- what the read-back does there
  abbrev last : Did Session
  last = did_of (loaded_with g₃) n (whole 4 read_payload)

  told : lines_in did_of empty_of c ≡ bench_lines last.answer last.reply
  told =
      rw records
      (lines n empty_of (loaded_with g₁) (loaded_with g₂) (loaded_with g₃) (whole 1 image) (whole 4 (write_payload wanted)) (whole 4 copy_payload)
      (whole 4 read_payload)
      (images n) (writes n) (copies n))

  left : c.ran.state ≡ last.state
  left =
      (running did_of empty_of within).state
      ∙ rw records
      (end n empty_of (loaded_with g₁) (loaded_with g₂) (loaded_with g₃) (whole 1 image) (whole 4 (write_payload wanted)) (whole 4 copy_payload)
      (whole 4 read_payload)
      (images n) (writes n) (copies n))

  state : c.ran.state ≡ loaded_with g₃
  state = by (ltb n 32) refl
    where
      by : (full : Bool) → ltb n 32 ≡ full → c.ran.state ≡ loaded_with g₃
      by true e = left ∙ ap (λ (d : Did Session). d.state) (refuses n (ltb-true n 32 e))
      by false e = left ∙ ap (λ (d : Did Session). d.state) (reads n (ltb-false n 32 e))

  set : Set image wanted g₃
  unfolding image_of powered_of
  set = record { eeprom = refl; shadow = refl; label = refl; saved = refl; locks = refl; common = refl; rest = refl }

  answers : Answers wanted c
  answers = record {
    told = tells did_of empty_of within;
    replied = λ fits. told ∙ ap (λ (d : Did Session). bench_lines d.answer d.reply) (reads n fits);
    short = λ over. told ∙ ap (λ (d : Did Session). bench_lines d.answer d.reply) (refuses n over);
  }

  holds : BenchHolds image wanted said c
  holds = record { done = rw (b.wrote.answer, writes_all) refl; loaded = rw state refl; set = rw state set; answers = answers }

pub bench : BenchTheorem
bench image wanted room said after c g b = holds g b

pub bench_done : DoneTheorem
bench_done image wanted room after c b = let g = granted image wanted (length room) (sym b.wrote.answer) in (g, holds g b)
