-- Samples are conversions, proved of sessions.
use mathlib.Core.Path.{◌≡◌, refl, sym, ap, subst, ◌∙◌}
use mathlib.Core.Bool.{Bool, true, false}
use mathlib.Core.List.{List, [], ◌∷◌, ◌++◌, map}
use Prim.Native.Nat.{ℕ, zero, suc, ◌-◌, zero-le}
use native.Mathlib.Nat.{sub-zero}
use borrow.Author.Tests.{le-ltb}
use lib.Dec.{ltb, leb, eqb}
use lib.ListN.{length, drop, replicate}
use Rattle.std.specs.Prelude.{Ok, Err}
use Rattle.numbers.specs.Choice.{pick}
use Rattle.numbers.proofs.Bounds.{picked, through}
use Rattle.state.specs.declared.Tick.{Tick}
use Rattle.state.specs.State.{no_tick, elapsed_of, timely_of, powered_of}
use Rattle.conversion.specs.Conversion.{with_flow, flowed_of, convert_of}
use Rattle.reading.specs.Reading.{drained_of, results_shown, read_of}
use Rattle.samples.specs.Samples.{with_tick, sampled_of, sample_of}
use Rattle.state.specs.declared.Meter.{Meter}
use Rattle.samples.proofs.Laws.{sampled_first}
use Rattle.registers.specs.Registers.{registers_of, meter_byte}
use Rattle.replies.specs.declared.Source.{Source}
use Rattle.replies.specs.declared.Source.TheVariants.{Address, Bytes, Idle}
use Rattle.replies.specs.Reply.{selected_of, reply_source_of, read_byte, source_byte, listed}
use Rattle.state.specs.declared.Common.{Common}
use Rattle.state.specs.declared.Label.{Label}
use Rattle.block1.specs.Block1.{meter_written_of, meter_copied_of, meter_recalled_of, meter_locked_of}
use Rattle.bus.specs.declared.Command.{Command}
use Rattle.bus.specs.declared.Command.TheVariants.{Read, Write, Copy, Recall, Lock, Nothing}
use Rattle.bus.specs.declared.Transaction.{Transaction}
use Rattle.gauge.specs.declared.Gauge.{Gauge}
use Rattle.gauge.specs.Gauge.{with_meter, conversion_of, sampling_of, reading_of, power_on_of, written_of, copied_of, recalled_of, locked_of}
use Rattle.gauge.specs.Change.{changed_of}
use Rattle.gauge.specs.Act.{ran_by, ran_of, act_of, reply_of}
use Rattle.record.specs.declared.Form.{Form}
use Rattle.record.specs.declared.Form.TheVariants.{Short, Long}
use Rattle.record.specs.declared.Kind.TheVariants as kind
use Rattle.record.specs.declared.Refusal.TheVariants as refusal
use Rattle.record.specs.declared.Event.TheVariants.{Image, Change, Transact}
use Rattle.record.specs.declared.Change.{Change as Changes}
use Rattle.record.specs.declared.Change.TheVariants as change
use Rattle.record.specs.Record.{kind_of, sized_of, read_count, limit_of, count_at, master_of, transaction_of, taken_of, timed_of, fitted_of, Taken}
use Rattle.runs.specs.Record.{Rec, whole, cut, kind_in}
use Rattle.runs.specs.Run.{Did, silently, Line, line_of, lines_after, end_after}
use Rattle.runs.specs.AnyRecord.{answered_by}
use Rattle.runs.specs.declared.Session.{Session}
use Rattle.runs.specs.SessionRecord.{loaded_with, of_session, did_of}
use Rattle.demands.specs.Slow.{Sample, tick_in, sampling, converting, Slowly, sample, other, is_sample, NoSamples, slow_record, sample_fits, is_power_on}
use Rattle.demands.specs.Slow.{one_by_one, done_line, one_by_one_lines, unticked_gauge, unticked, last_of, Slow}
use Rattle.session_run.specs.SessionRun.{empty_of}
use Rattle.tray_record.specs.Tray.{empty_tray, tray_did}
use Rattle.gauge.specs.Image.{image_of}
use Rattle.demands.specs.Slow.{unsampled_by, tick_heard, unsampled, SlowPack}
use Rattle.demands.specs.History.{Happening, imaged, changed, transacted, happened, lived, Pack, of_gauge, of_slot, heard_since, left_by}
use Rattle.demands.proofs.History.{lived_append, Known, session_known, slot_known}
use Rattle.demands.proofs.Choice.{Each, NoneOf, among}

-- One record

abbrev raw_in : Sample → ℕ
raw_in s = count_at (s.c0 ∷ s.c1 ∷ s.c2 ∷ s.c3 ∷ []) 0

did_conversion : (g : Gauge) (room : ℕ) (s : Sample) → did_of (loaded_with g) room (converting s) ≡ silently (loaded_with (conversion_of g (raw_in s))) 0
unfolding did_of taken_of kind_of
did_conversion g room s = rw (le-ltb room 0 zero-le) refl

-- a sample is taken where its conversions fit, and else it is refused with 11
did_sample : (g : Gauge) (room : ℕ) (s : Sample) → did_of (loaded_with g) room (sampling s)
    ≡ pick (sample_fits (last_of g room) s) (silently (loaded_with (sampling_of g (raw_in s) (tick_in s))) 0) (silently (loaded_with g) 11)
unfolding did_of taken_of kind_of timely_of
did_sample g room s = by (sample_fits (last_of g room) s)
  where
    by : (t : Bool) → answered_by of_session (loaded_with g) (s.c0 ∷ s.c1 ∷ s.c2 ∷ s.c3 ∷ s.low ∷ s.high ∷ [])
        (fitted_of room (pick t (Ok (Change (change.Sample (raw_in s) (tick_in s)))) (Err refusal.Interval)))
        ≡ pick t (silently (loaded_with (sampling_of g (raw_in s) (tick_in s))) 0) (silently (loaded_with g) 11)
    by true = rw (le-ltb room 0 zero-le) refl
    by false = refl

-- what a record that is silent leaves, and its line
module _ (σ : Session) (room : ℕ) (r : Rec) (rs : List Rec) (g : Gauge) (answer : ℕ) (e : did_of σ room r ≡ silently (loaded_with g) answer) where
  silent_end : end_after did_of σ room (r ∷ rs) ≡ end_after did_of (loaded_with g) room rs
  silent_end = rw (e, sub-zero) refl

  -- and the lines after it
  silent_later : lines_after did_of (did_of σ room r).state (room - length (did_of σ room r).reply) rs ≡ lines_after did_of (loaded_with g) room rs
  silent_later = rw (e, sub-zero) refl

  silent_lines : lines_after did_of σ room (r ∷ rs) ≡ line_of r (silently (loaded_with g) answer) ∷ lines_after did_of (loaded_with g) room rs
  silent_lines = λ i. line_of r (e i) ∷ silent_later i

-- Conversions, one by one

abbrev sampled_gauge : Gauge → ℕ → ℕ → Gauge
sampled_gauge g raw n = with_meter g (sampled_of g.meter raw n)

module _ (room : ℕ) (s : Sample) (rs : List Rec) where
  conversions_end : (g : Gauge) (n : ℕ)
      → end_after did_of (loaded_with g) room (replicate n (converting s) ++ rs) ≡ end_after did_of (loaded_with (sampled_gauge g (raw_in s) n)) room rs
  unfolding sampled_of conversion_of
  conversions_end g zero = refl
  conversions_end g (suc n) =
      silent_end (loaded_with g) room (converting s) (replicate n (converting s) ++ rs) (conversion_of g (raw_in s)) 0 (did_conversion g room s)
      ∙ conversions_end (conversion_of g (raw_in s)) n
      ∙ ap (λ (m : Meter). end_after did_of (loaded_with (with_meter g m)) room rs) (sampled_first g.meter (raw_in s) n)

  conversions_lines : (g : Gauge) (n : ℕ)
      → lines_after did_of (loaded_with g) room (replicate n (converting s) ++ rs)
      ≡ replicate n done_line ++ lines_after did_of (loaded_with (sampled_gauge g (raw_in s) n)) room rs
  unfolding sampled_of conversion_of
  conversions_lines g zero = refl
  conversions_lines g (suc n) =
      silent_lines (loaded_with g) room (converting s) (replicate n (converting s) ++ rs) (conversion_of g (raw_in s)) 0 (did_conversion g room s)
      ∙ ap (λ (ls : List Line). done_line ∷ ls)
      (conversions_lines (conversion_of g (raw_in s)) n
      ∙ ap (λ (m : Meter). replicate n done_line ++ lines_after did_of (loaded_with (with_meter g m)) room rs) (sampled_first g.meter (raw_in s) n))

-- The tick is not looked at by conversions

unticked_meter : (m : Meter) (raw n : ℕ)
    → with_flow (sampled_of m raw n) (with_tick (sampled_of m raw n).flow no_tick) ≡ sampled_of (with_flow m (with_tick m.flow no_tick)) raw n
unfolding sampled_of convert_of flowed_of
unticked_meter m raw zero = refl
unticked_meter m raw (suc n) = ap (λ (x : Meter). convert_of x raw) (unticked_meter m raw n)

sampled_same : (g h : Gauge) (raw n : ℕ) → unticked_gauge g ≡ unticked_gauge h →
    unticked_gauge (sampled_gauge g raw n) ≡ unticked_gauge (sampled_gauge h raw n)
sampled_same g h raw n e =
    ap (with_meter g) (unticked_meter g.meter raw n) ∙ ap (λ (x : Gauge). sampled_gauge x raw n) e
    ∙ sym (ap (with_meter h) (unticked_meter h.meter raw n))

-- nor by what else happens

ran_unticked : (command : Command) (g : Gauge) (a : ℕ) (bytes : List ℕ) → unticked_gauge (ran_by command g a bytes) ≡ ran_by command (unticked_gauge g) a bytes
unfolding written_of copied_of recalled_of locked_of meter_written_of meter_copied_of meter_recalled_of meter_locked_of
ran_unticked Read g a bytes = refl
ran_unticked Write g a bytes = refl
ran_unticked Copy g a bytes = refl
ran_unticked Recall g a bytes = refl
ran_unticked Lock g a bytes = refl
ran_unticked Nothing g a bytes = refl

acted_unticked : (g : Gauge) (t : Transaction) (master : List ℕ) → unticked_gauge (act_of g t master) ≡ act_of (unticked_gauge g) t master
unfolding act_of ran_of
acted_unticked g t master =
    through unticked_gauge (selected_of g.common.address t master) _ g
    ∙ ap (λ (x : Gauge). pick (selected_of g.common.address t master) x (unticked_gauge g))
    (ran_unticked t.command g t.address (drop t.from master))

acted_tick : (g : Gauge) (t : Transaction) (master : List ℕ) → (act_of g t master).meter.flow.tick ≡ g.meter.flow.tick
unfolding act_of ran_of written_of copied_of recalled_of locked_of meter_written_of meter_copied_of meter_recalled_of meter_locked_of
acted_tick g t master =
    picked (λ (f : Gauge). f.meter.flow.tick ≡ g.meter.flow.tick) (selected_of g.common.address t master) _ g
    (λ e. by t.command) (λ e. refl)
  where
    by : (command : Command) → (ran_by command g t.address (drop t.from master)).meter.flow.tick ≡ g.meter.flow.tick
    by Read = refl
    by Write = refl
    by Copy = refl
    by Recall = refl
    by Lock = refl
    by Nothing = refl

source_unticked : (k : Common) (l : Label) (m : Meter) (source : Source) (j : ℕ)
    → source_byte k l m source j ≡ source_byte k l (with_flow m (with_tick m.flow no_tick)) source j
unfolding source_byte read_byte meter_byte registers_of
source_unticked k l m Address j = refl
source_unticked k l m (Bytes a) j = refl
source_unticked k l m Idle j = refl

reply_unticked : (g : Gauge) (t : Transaction) (master : List ℕ) → reply_of g t master ≡ reply_of (unticked_gauge g) t master
unfolding reply_of
reply_unticked g t master =
    let source = reply_source_of (selected_of g.common.address t master) g.meter.cells.block.shadow t in
    λ i. listed (λ j. source_unticked g.common g.label g.meter source j i) 0 t.count

-- A record of another kind, in a session whose image was accepted: a power-on, or none; no image and no sample is taken

abbrev Other : Bool → Taken → Type 0
Other on (Ok (Image f)) = ⊥
Other on (Ok (Change (change.Reading volt temp))) = on ≡ false
Other on (Ok (Change (change.Conversion raw))) = on ≡ false
Other on (Ok (Change (change.Sample raw tick))) = ⊥
Other on (Ok (Change change.PowerOn)) = on ≡ true
Other on (Ok (Transact t)) = on ≡ false
Other on (Err r) = on ≡ false

module _ (p : List ℕ) where
  abbrev OtherKind : ℕ → Type 0
  OtherKind n = is_sample (whole n p) ≡ false → Other (is_power_on (whole n p)) (taken_of n true p)

  -- refused for its size, or not
  sized_other : (sized : Bool) (t : Taken) → Other false t → Other false (pick sized t (Err refusal.Size))
  sized_other true t h = h
  sized_other false t h = refl

  transaction_other : (f : Form) → Other false (transaction_of f p)
  transaction_other f = picked (Other false) (leb (read_count f p) (limit_of f)) _ _ (λ few. refl) (λ many. refl)

  power_on_other : (sized : Bool) → Other sized (pick sized (Ok (Change change.PowerOn)) (Err refusal.Size))
  power_on_other true = refl
  power_on_other false = refl

  known_other : Each OtherKind (1 ∷ 2 ∷ 3 ∷ 4 ∷ 5 ∷ 6 ∷ 7 ∷ 8 ∷ [])
  unfolding taken_of kind_of
  known_other =
      let image : (n : ℕ) → Other false (pick (eqb (length p) n) (Err refusal.Order) (Err refusal.Size)) = λ n. sized_other (eqb (length p) n) _ refl in
      let transaction : (f : Form) → Other false (pick (sized_of (kind.Transaction f) (length p)) (transaction_of f p) (Err refusal.Size)) =
      λ f. sized_other (sized_of (kind.Transaction f) (length p)) (transaction_of f p) (transaction_other f) in
      let reading = sized_other (eqb (length p) 8) (Ok (Change (change.Reading (count_at p 0) (count_at p 4)))) refl in
      let conversion = sized_other (eqb (length p) 4) (Ok (Change (change.Conversion (count_at p 0)))) refl in (
        λ e. image 60,
        (
          λ e. reading,
          (
            λ e. conversion,
            (
              λ e. transaction Short,
              (λ e. power_on_other (eqb (length p) 0), (λ e. rw e refl, (λ e. transaction Long, (λ e. image 61, tt)))),
            ),
          ),
        ),
      )

  unknown_other : (n : ℕ) → NoneOf (1 ∷ 2 ∷ 3 ∷ 4 ∷ 5 ∷ 6 ∷ 7 ∷ 8 ∷ []) n → OtherKind n
  unfolding taken_of kind_of
  unknown_other n (a, (b, (c, (d, (e, (f, (g, (h, u)))))))) z = rw (a, b, c, d, e, f, g, h) refl

  other_taken : (n : ℕ) → OtherKind n
  other_taken n = among OtherKind n (1 ∷ 2 ∷ 3 ∷ 4 ∷ 5 ∷ 6 ∷ 7 ∷ 8 ∷ []) known_other (unknown_other n)

-- it asks no tick, and room only if it is a transaction
timed_other : (last : Tick) (on : Bool) (t : Taken) → Other on t → timed_of last t ≡ t
timed_other last on (Ok (Image f)) h = absurd h
timed_other last on (Ok (Change (change.Reading volt temp))) h = refl
timed_other last on (Ok (Change (change.Conversion raw))) h = refl
timed_other last on (Ok (Change (change.Sample raw tick))) h = absurd h
timed_other last on (Ok (Change change.PowerOn)) h = refl
timed_other last on (Ok (Transact t)) h = refl
timed_other last on (Err r) h = refl

fitted_other : (room : ℕ) (on : Bool) (t : Taken) → Other on t → Other on (fitted_of room t)
fitted_other room on (Ok (Image f)) h = absurd h
fitted_other room on (Ok (Change (change.Reading volt temp))) h = rw (le-ltb room 0 zero-le) h
fitted_other room on (Ok (Change (change.Conversion raw))) h = rw (le-ltb room 0 zero-le) h
fitted_other room on (Ok (Change (change.Sample raw tick))) h = absurd h
fitted_other room on (Ok (Change change.PowerOn)) h = rw (le-ltb room 0 zero-le) h
fitted_other room on (Ok (Transact t)) h = picked (Other on) (ltb room t.count) _ _ (λ full. h) (λ fits. h)
fitted_other room on (Err r) h = h

-- in two states that are the same but for the tick it gets the same, and they stay the same
record Alike (on : Bool) (g h : Gauge) (d e : Did Session) : Type 0 where
  one : Gauge
  another : Gauge
  left : d.state ≡ loaded_with one
  right : e.state ≡ loaded_with another
  same : unticked_gauge one ≡ unticked_gauge another
  tick : one.meter.flow.tick ≡ pick on no_tick g.meter.flow.tick
  answer : d.answer ≡ e.answer
  reply : d.reply ≡ e.reply

module _ (g h : Gauge) (e : unticked_gauge g ≡ unticked_gauge h) (p : List ℕ) where
  -- what changes both and answers nothing
  changed_alike : (on : Bool) (c : Changes) → ((f : Gauge) → unticked_gauge (changed_of f c) ≡ changed_of (unticked_gauge f) c)
      → (changed_of g c).meter.flow.tick ≡ pick on no_tick g.meter.flow.tick
      → Alike on g h (silently (loaded_with (changed_of g c)) 0) (silently (loaded_with (changed_of h c)) 0)
  changed_alike on c blind tick = record {
    one = changed_of g c;
    another = changed_of h c;
    left = refl;
    right = refl;
    same = blind g ∙ ap (λ (f : Gauge). changed_of f c) e ∙ sym (blind h);
    tick = tick;
    answer = refl;
    reply = refl;
  }

  taken_alike : (on : Bool) (t : Taken) → Other on t → Alike on g h (answered_by of_session (loaded_with g) p t) (answered_by of_session (loaded_with h) p t)
  unfolding reading_of read_of drained_of results_shown conversion_of convert_of flowed_of power_on_of powered_of
  taken_alike on (Ok (Image f)) o = absurd o
  taken_alike on (Ok (Change (change.Reading volt temp))) o = changed_alike on (change.Reading volt temp) (λ f. refl) (rw o refl)
  taken_alike on (Ok (Change (change.Conversion raw))) o = changed_alike on (change.Conversion raw) (λ f. refl) (rw o refl)
  taken_alike on (Ok (Change (change.Sample raw tick))) o = absurd o
  taken_alike on (Ok (Change change.PowerOn)) o = changed_alike on change.PowerOn (λ f. refl) (rw o refl)
  taken_alike on (Ok (Transact t)) o =
      let master = master_of t p in
      record {
        one = act_of g t master;
        another = act_of h t master;
        left = refl;
        right = refl;
        same = acted_unticked g t master ∙ ap (λ (f : Gauge). act_of f t master) e ∙ sym (acted_unticked h t master);
        tick = rw o (acted_tick g t master);
        answer = refl;
        reply = reply_unticked g t master ∙ ap (λ (f : Gauge). reply_of f t master) e ∙ sym (reply_unticked h t master);
      }
  taken_alike on (Err r) o = record { one = g; another = h; left = refl; right = refl; same = e; tick = rw o refl; answer = refl; reply = refl }

other_did : (g : Gauge) (room n : ℕ) (p : List ℕ) → is_sample (whole n p) ≡ false
    → did_of (loaded_with g) room (whole n p) ≡ answered_by of_session (loaded_with g) p (fitted_of room (taken_of n true p))
unfolding did_of
other_did g room n p z =
    ap (λ (t : Taken). answered_by of_session (loaded_with g) p (fitted_of room t))
    (timed_other g.meter.flow.tick (is_power_on (whole n p)) (taken_of n true p) (other_taken p n z))

cut_did : (g : Gauge) (room : ℕ) → did_of (loaded_with g) room cut ≡ silently (loaded_with g) 2
unfolding did_of
cut_did g room = refl

module _ (g h : Gauge) (e : unticked_gauge g ≡ unticked_gauge h) (room : ℕ) where
  -- of what a record does in both
  alike_did : (on : Bool) (r : Rec) (d f : Did Session) → did_of (loaded_with g) room r ≡ d → did_of (loaded_with h) room r ≡ f → Alike on g h d f
      → Alike on g h (did_of (loaded_with g) room r) (did_of (loaded_with h) room r)
  alike_did on r d f x y a =
      subst (λ (z : Did Session). Alike on g h z (did_of (loaded_with h) room r)) (sym x) (subst (λ (z : Did Session). Alike on g h d z) (sym y) a)

  other_alike : (r : Rec) → is_sample r ≡ false → Alike (is_power_on r) g h (did_of (loaded_with g) room r) (did_of (loaded_with h) room r)
  other_alike (whole n p) z =
      let on = is_power_on (whole n p) in
      let t = fitted_of room (taken_of n true p) in
      alike_did on (whole n p) _ _ (other_did g room n p z) (other_did h room n p z)
      (taken_alike g h e p on t (fitted_other room on (taken_of n true p) (other_taken p n z)))
  other_alike cut z =
      alike_did false cut _ _ (cut_did g room) (cut_did h room)
      (record { one = g; another = h; left = refl; right = refl; same = e; tick = refl; answer = refl; reply = refl })

-- Samples, and other records between them

module _ (g h : Gauge) (room : ℕ) (xs : List Slowly) where
  abbrev last : Tick
  last = g.meter.flow.tick

  -- from two states that are the same but for the tick
  record Ends : Type 0 where
    state : unticked (end_after did_of (loaded_with g) room (map slow_record xs)) ≡ unticked (end_after did_of (loaded_with h) room (one_by_one last xs))
    lines : lines_after did_of (loaded_with h) room (one_by_one last xs) ≡
        one_by_one_lines last xs (lines_after did_of (loaded_with g) room (map slow_record xs))

module _ (g h : Gauge) (room : ℕ) (s : Sample) (xs : List Slowly) where
  abbrev raw : ℕ
  raw = raw_in s

  abbrev elapsed : ℕ
  elapsed = elapsed_of g.meter.flow.tick (tick_in s)

  abbrev taken : Gauge
  taken = sampling_of g raw (tick_in s)

  -- a sample that is taken
  taken_ends : sample_fits g.meter.flow.tick s ≡ true → Ends taken (sampled_gauge h raw elapsed) room xs → Ends g h room (sample s ∷ xs)
  unfolding sampling_of sample_of
  taken_ends fits later =
      let d : did_of (loaded_with g) room (sampling s) ≡ silently (loaded_with taken) 0 = did_sample g room s ∙ rw fits refl in
      let rs = map slow_record xs in
      let qs = one_by_one taken.meter.flow.tick xs in
      record {
        state = rw fits (
            ap unticked (silent_end (loaded_with g) room (sampling s) rs taken 0 d) ∙ later.state ∙ sym (ap unticked (conversions_end room s qs h elapsed)));
        lines = rw fits (
            conversions_lines room s qs h elapsed
            ∙ ap (λ (ls : List Line). replicate elapsed done_line ++ ls)
            (later.lines ∙ ap (one_by_one_lines taken.meter.flow.tick xs) (sym (silent_later (loaded_with g) room (sampling s) rs taken 0 d))));
      }

  -- and one that is refused
  refused_ends : sample_fits g.meter.flow.tick s ≡ false → Ends g h room xs → Ends g h room (sample s ∷ xs)
  refused_ends fits later =
      let d : did_of (loaded_with g) room (sampling s) ≡ silently (loaded_with g) 11 = did_sample g room s ∙ rw fits refl in
      let rs = map slow_record xs in
      record {
        state = rw fits (ap unticked (silent_end (loaded_with g) room (sampling s) rs g 11 d) ∙ later.state);
        lines = rw fits (
            later.lines ∙ ap (one_by_one_lines g.meter.flow.tick xs) (sym (silent_later (loaded_with g) room (sampling s) rs g 11 d)));
      }

-- a record of another kind
other_ends : (g h : Gauge) (room : ℕ) (r : Rec) (xs : List Slowly)
    (a : Alike (is_power_on r) g h (did_of (loaded_with g) room r) (did_of (loaded_with h) room r))
    → Ends a.one a.another (room - length (did_of (loaded_with g) room r).reply) xs → Ends g h room (other r ∷ xs)
other_ends g h room r xs a later =
    let d = did_of (loaded_with g) room r in
    let left = room - length d.reply in
    let rs = map slow_record xs in
    record {
      state =
          (λ i. unticked (end_after did_of (a.left i) left rs))
          ∙ later.state
          ∙ (λ i. unticked (end_after did_of (sym a.right i) (room - length (a.reply i)) (one_by_one (a.tick i) xs)));
      lines =
          (λ i. record { kind = kind_in r; answer = sym a.answer i; reply = sym a.reply i }
          ∷ lines_after did_of (a.right i) (room - length (sym a.reply i)) (one_by_one (sym a.tick i) xs))
          ∙ ap (λ (ls : List Line). line_of r d ∷ ls) later.lines
          ∙ (λ i. line_of r d ∷ one_by_one_lines (a.tick i) xs (lines_after did_of (sym a.left i) left rs));
    }

samples_end : (xs : List Slowly) (g h : Gauge) (room : ℕ) → unticked_gauge g ≡ unticked_gauge h → NoSamples xs → Ends g h room xs
unfolding sampling_of sample_of
samples_end [] g h room e n = record { state = ap loaded_with e; lines = refl }
samples_end (sample s ∷ xs) g h room e n =
    let k = elapsed_of g.meter.flow.tick (tick_in s) in
    by (sample_fits g.meter.flow.tick s) refl
    (samples_end xs (sampling_of g (raw_in s) (tick_in s)) (sampled_gauge h (raw_in s) k) room (sampled_same g h (raw_in s) k e) n)
    (samples_end xs g h room e n)
  where
    by : (t : Bool) → sample_fits g.meter.flow.tick s ≡ t
        → Ends (sampling_of g (raw_in s) (tick_in s)) (sampled_gauge h (raw_in s) (elapsed_of g.meter.flow.tick (tick_in s))) room xs → Ends g h room xs
        → Ends g h room (sample s ∷ xs)
    by true fits later same = taken_ends g h room s xs fits later
    by false fits later same = refused_ends g h room s xs fits same
samples_end (other r ∷ xs) g h room e n =
    let a = other_alike g h e room r n.0 in
    other_ends g h room r xs a (samples_end xs a.one a.another (room - length (did_of (loaded_with g) room r).reply) a.same n.1)

-- What a pack goes through

lived_sampled : (g : Gauge) (raw n : ℕ) → lived g (replicate n (changed (change.Conversion raw))) ≡ sampled_gauge g raw n
unfolding sampled_of conversion_of
lived_sampled g raw zero = refl
lived_sampled g raw (suc n) = lived_sampled (conversion_of g raw) raw n ∙ ap (with_meter g) (sampled_first g.meter raw n)

module _ (g h : Gauge) (e : unticked_gauge g ≡ unticked_gauge h) where
  -- one thing in both
  happened_same : (x : Happening) → unticked_gauge (happened g x) ≡ unticked_gauge (lived h (unsampled_by g.meter.flow.tick x))
  unfolding reading_of read_of drained_of results_shown conversion_of convert_of flowed_of power_on_of powered_of sampling_of sample_of
  happened_same (imaged f p) = refl
  happened_same (changed (change.Reading volt temp)) = ap (λ (f : Gauge). reading_of f volt temp) e
  happened_same (changed (change.Conversion raw)) = ap (λ (f : Gauge). conversion_of f raw) e
  happened_same (changed (change.Sample raw tick)) =
      let n = elapsed_of g.meter.flow.tick tick in
      sampled_same g h raw n e ∙ ap unticked_gauge (sym (lived_sampled h raw n))
  happened_same (changed change.PowerOn) = ap power_on_of e
  happened_same (transacted t master) =
      acted_unticked g t master ∙ ap (λ (f : Gauge). act_of f t master) e ∙ sym (acted_unticked h t master)

happened_tick : (g : Gauge) (x : Happening) → (happened g x).meter.flow.tick ≡ tick_heard g.meter.flow.tick x
unfolding image_of reading_of read_of results_shown conversion_of convert_of flowed_of power_on_of powered_of sampling_of sample_of
happened_tick g (imaged f p) = refl
happened_tick g (changed (change.Reading volt temp)) = refl
happened_tick g (changed (change.Conversion raw)) = refl
happened_tick g (changed (change.Sample raw tick)) = refl
happened_tick g (changed change.PowerOn) = refl
happened_tick g (transacted t master) = acted_tick g t master

lived_same : (hs : List Happening) (g h : Gauge) → unticked_gauge g ≡ unticked_gauge h
    → unticked_gauge (lived g hs) ≡ unticked_gauge (lived h (unsampled g.meter.flow.tick hs))
lived_same [] g h e = e
lived_same (x ∷ hs) g h e =
    let last = g.meter.flow.tick in
    lived_same hs (happened g x) (lived h (unsampled_by last x)) (happened_same g h e x)
    ∙ ap unticked_gauge
    ((λ i. lived (lived h (unsampled_by last x)) (unsampled (happened_tick g x i) hs)) ∙ sym (lived_append (unsampled_by last x) _ h))

slow_pack : {S : Type 0} (did : S → ℕ → Rec → Did S) (start : S) (pack : Pack S) → Known did start pack → SlowPack did start pack
slow_pack did start pack k n a b w s =
    ap unticked_gauge (k.since n a b w s) ∙ lived_same (heard_since pack did n a b) (left_by pack a) (left_by pack a) refl

pub slow : Slow
slow = record {
  answers = λ g room s. ap (λ (d : Did Session). d.answer) (did_sample g room s) ∙ through (λ (d : Did Session). d.answer) (sample_fits (last_of g room) s) _ _;
  conversions = λ g room xs n. let z = samples_end xs g g room refl n in record { state = z.state; lines = z.lines };
  session = slow_pack did_of empty_of of_gauge session_known;
  slots = λ j. slow_pack tray_did empty_tray (of_slot j) (slot_known j);
}
