-- The packs that a transaction reaches reply one after the other.
use mathlib.Core.Path.{◌≡◌, refl, sym, ap, subst, ◌∙◌}
use mathlib.Core.Bool.{Bool, true, false}
use mathlib.Core.List.{List, [], ◌∷◌, ◌++◌}
use Prim.Native.Nat.{ℕ, zero, suc, ◌+◌, ◌-◌, ◌%◌, ◌≤◌, ◌<◌}
use native.Mathlib.Omega.{arith}
use native.Mathlib.Numerals.{add-one}
use borrow.Author.Tests.{eq-eqb, ne_eqb}
use lib.Bits.{bit_and, and_comm, and_mask}
use lib.Dec.{eqb}
use lib.ListN.{length, get_or, take, drop}
use lib.Seq.{take_at}
use Rattle.numbers.specs.Choice.{pick, both}
use Rattle.state.specs.declared.Common.{Common}
use Rattle.state.specs.declared.Label.{Label}
use Rattle.state.specs.declared.Meter.{Meter}
use Rattle.bus.specs.declared.Command.{Command}
use Rattle.bus.specs.declared.Command.TheVariants as command
use Rattle.bus.specs.declared.Transaction.{Transaction}
use Rattle.replies.specs.declared.Source.{Source}
use Rattle.replies.specs.Reply.{listed, read_source_of, source_byte, replied_of}
use Rattle.replies.proofs.Listed.{listed_length}
use Rattle.gauge.specs.declared.Gauge.{Gauge}
use Rattle.gauge.specs.Act.{can_change, reply_of}
use Rattle.gauge.proofs.Acting.{reply_length}
use Rattle.tray_record.specs.declared.Tray.{Tray}
use Rattle.tray_record.specs.declared.Span.{Span}
use Rattle.tray_record.specs.Wire.{and_bytes}
use Rattle.tray_record.specs.Tray.{pack_of, Reach, one, every, nobody, tray_reach, wired_first, tray_reply, reach_span, selecting_of, changing_of}
use Rattle.tray_record.specs.Tray.{answer_of, line_high, on_line, beside_line, unheard_of}
use Rattle.tray_record.proofs.Anded.{and_front}
use Rattle.tray_record.proofs.Chosen.{reach_selects}
use Rattle.tray_record.proofs.Acting.{never}
use Rattle.tray_record.proofs.Hearing.{wired_length}

-- ---- a reply of bytes, ANDed onto a line that is high, is itself

and_ones : (b : ℕ) → b < 256 → bit_and 0xff b ≡ b
and_ones b h =
    let e : b % 256 ≡ b = omega arith in
    and_comm 0xff b ∙ and_mask b 8 ∙ e

high_and : (i n : ℕ) (reply rest : List ℕ) → length reply ≡ n → ((j : ℕ) → get_or (reply ++ rest) j 0 < 256)
    → and_bytes (listed (λ j. 0xff) i n) reply ≡ reply
high_and i zero [] rest e bytes = refl
high_and i zero (b ∷ reply) rest e bytes = absurd (omega arith)
high_and i (suc n) [] rest e bytes = absurd (omega arith)
high_and i (suc n) (b ∷ reply) rest e bytes =
    (λ x. and_ones b (bytes 0) x ∷ and_bytes (listed (λ j. 0xff) (i + 1) n) reply)
    ∙ ap (λ (l : List ℕ). b ∷ l) (high_and (i + 1) n reply rest (omega arith) (λ j. bytes (suc j)))

-- ---- what a pack leaves of the room, and of the one beside it

module _ (t : Transaction) (common : Common) (label : Label) (meter : Meter) where
  abbrev answer : List ℕ
  answer = answer_of t common label meter

  abbrev Heard : Bool → List ℕ → List ℕ → List ℕ → List ℕ → Type 0
  Heard first scratch room beside after =
      (after ≡ on_line t first answer room) × ((beside ≡ beside_line t first answer scratch) × (and_bytes (line_high t) answer ≡ answer))

  module _ {chosen : Bool} (es : chosen ≡ selecting_of t.rom) where
    said : (rest : List ℕ) → replied_of chosen common label meter t ++ rest ≡ answer ++ rest
    said rest = ap (λ (b : Bool). replied_of b common label meter t ++ rest) es

    pub in_bytes : (rest : List ℕ) {room : List ℕ} → room ≡ replied_of chosen common label meter t ++ rest → ((j : ℕ) → get_or room j 0 < 256)
        → and_bytes (line_high t) answer ≡ answer
    in_bytes rest written bytes =
        high_and 0 t.count answer rest (listed_length _ 0 t.count)
        (subst (λ (l : List ℕ). (j : ℕ) → get_or l j 0 < 256) (written ∙ said rest) bytes)

    pub heard_first : {first : Bool} (scratch room : List ℕ) {after : List ℕ} → first ≡ true
        → after ≡ replied_of chosen common label meter t ++ drop t.count room
        → ((j : ℕ) → get_or after j 0 < 256) → Heard first scratch room scratch after
    heard_first scratch room e ea bytes = rw e (ea ∙ said (drop t.count room), (refl, in_bytes (drop t.count room) ea bytes))

    pub heard_further : {first : Bool} (scratch room : List ℕ) {beside after : List ℕ} → first ≡ false
        → beside ≡ replied_of chosen common label meter t ++ drop t.count scratch → ((j : ℕ) → get_or beside j 0 < 256)
        → after ≡ and_bytes room (take t.count beside) → Heard first scratch room beside after
    heard_further scratch room e eb bytes ea =
        let front = ap (take t.count) (eb ∙ said (drop t.count scratch)) ∙ take_at answer _ t.count (listed_length _ 0 t.count) in
        rw e (ea ∙ ap (and_bytes room) front, (eb ∙ said (drop t.count scratch), in_bytes (drop t.count scratch) eb bytes))

-- ---- one after the other

module _ (t : Transaction) (τ : Tray) where
  -- the answer of the pack in a slot
  abbrev answer_at : ℕ → List ℕ
  answer_at i = answer_of t (pack_of τ i).common (pack_of τ i).label (pack_of τ i).meter

  -- the line, as so many of the packs from the first on have left it
  abbrev line_after : ℕ → ℕ → List ℕ → List ℕ
  line_after first zero before = before
  line_after first (suc zero) before = answer_at first ++ drop t.count before
  line_after first (suc (suc k)) before = and_bytes (line_after first (suc k) before) (answer_at (first + suc k))

  -- those before the slot i have answered
  pub record Answering (span : Span) (before room : List ℕ) (i : ℕ) : Type 0 where
    pub low : span.first ≤ i
    pub high : i ≤ span.stop
    pub line : room ≡ line_after span.first (i - span.first) before
    pub bytes : span.first < i → and_bytes (line_high t) (answer_at span.first) ≡ answer_at span.first

  pub answering_start : {span : Span} {i : ℕ} (before : List ℕ) → span.first ≤ span.stop → i ≡ span.first → Answering span before before i
  answering_start {span} {i} before straight e =
      let none : 0 ≡ i - span.first = omega arith in
      record {
        low = omega arith;
        high = omega arith;
        line = ap (λ (n : ℕ). line_after span.first n before) none;
        bytes = λ h. absurd (omega arith);
      }

  -- the next one answers, as it was read
  module _ {span : Span} {before room : List ℕ} {i : ℕ} (s : Answering span before room i) (more : i < span.stop) {g : Gauge} (eg : g ≡ pack_of τ i) where
    abbrev mine : List ℕ
    mine = answer_of t g.common g.label g.meter

    is_at : mine ≡ answer_at i
    is_at = ap (λ (k : Gauge). answer_of t k.common k.label k.meter) eg

    pub answering_more : {fresh : Bool} {after : List ℕ} → fresh ≡ eqb i span.first → after ≡ on_line t fresh mine room
        → and_bytes (line_high t) mine ≡ mine → Answering span before after (i + 1)
    answering_more {after = after} ef ea eb = by (i - span.first) refl
      where
        by : (k : ℕ) → i - span.first ≡ k → Answering span before after (i + 1)
        by zero e =
            let same : i ≡ span.first = omega (arith, s.low) in
            let next : i + 1 - span.first ≡ 1 = omega (arith, s.low) in
            let answer : mine ≡ answer_at span.first = is_at ∙ ap answer_at same in
            let unheard : room ≡ before = s.line ∙ ap (λ (n : ℕ). line_after span.first n before) e in
            record {
              low = omega (arith, s.low);
              high = omega arith;
              line = rw next (ea ∙ ap (λ (b : Bool). on_line t b mine room) (ef ∙ eq-eqb i span.first same) ∙ rw (answer, unheard) refl);
              bytes = λ h. rw answer at eb;
            }
        by (suc k) e =
            let next : i + 1 - span.first ≡ suc (suc k) = omega (arith, s.low) in
            let at : span.first + suc k ≡ i = omega (arith, s.low) in
            let heard : room ≡ line_after span.first (suc k) before = s.line ∙ ap (λ (n : ℕ). line_after span.first n before) e in
            let further = ne_eqb i span.first (λ same. absurd (omega arith)) in
            record {
              low = omega (arith, s.low);
              high = omega arith;
              line = rw (next, at) (ea ∙ ap (λ (b : Bool). on_line t b mine room) (ef ∙ further) ∙ rw (is_at, heard) refl);
              bytes = λ h. s.bytes (omega (arith, s.low));
            }

  -- ---- all have answered

  module _ (master : List ℕ) where
    abbrev Replies : Span → Type 0
    Replies span = (i : ℕ) → span.first ≤ i → i < span.stop → answer_at i ≡ reply_of (pack_of τ i) t master

    answers_are : Replies (reach_span τ.count (tray_reach τ t master))
    unfolding reply_of
    answers_are i low high =
        ap (λ (chosen : Bool). replied_of chosen (pack_of τ i).common (pack_of τ i).label (pack_of τ i).meter t) (sym (reach_selects t master τ i low high))

    line_wired : (k : ℕ) (before : List ℕ) → Replies (record { first = 0; stop = suc k }) → and_bytes (line_high t) (answer_at 0) ≡ answer_at 0
        → line_after 0 (suc k) before ≡ wired_first t master τ (suc k) ++ drop t.count before
    line_wired zero before are high =
        let e = are 0 (omega arith) (omega arith) in
        ap (λ (l : List ℕ). l ++ drop t.count before) (sym high ∙ ap (and_bytes (line_high t)) e)
    line_wired (suc k) before are high =
        let at : 0 + suc k ≡ suc k = omega arith in
        let e = are (suc k) (omega arith) (omega arith) in
        rw at
        (ap (λ (l : List ℕ). and_bytes l (answer_at (suc k))) (line_wired k before (λ i low below. are i low (omega arith)) high)
        ∙ ap (and_bytes (wired_first t master τ (suc k) ++ drop t.count before)) e
        ∙ and_front (wired_first t master τ (suc k)) (drop t.count before) (reply_of (pack_of τ (suc k)) t master)
        (wired_length t master τ (suc k) ∙ sym (reply_length (pack_of τ (suc k)) t master)))

    all_wired : (n : ℕ) {before room : List ℕ} → Replies (record { first = 0; stop = n }) → Answering (record { first = 0; stop = n }) before room n
        → unheard_of t n room ≡ wired_first t master τ n ++ drop t.count before
    all_wired zero are s = ap (λ (l : List ℕ). line_high t ++ drop t.count l) s.line
    all_wired (suc k) {before} are s =
        let e : suc k - 0 ≡ suc k = omega arith in
        (rw e at s.line) ∙ line_wired k before are (s.bytes (omega arith))

    pub answering_end : {span : Span} {before room : List ℕ} {i : ℕ} → span ≡ reach_span τ.count (tray_reach τ t master)
        → Answering span before room i → {stop : ℕ} → stop ≤ i → stop ≡ span.stop
        → unheard_of t stop room ≡ tray_reply t master (tray_reach τ t master) τ ++ drop t.count before
    answering_end {span} {before} {room} {i} es s done e =
        let all : i ≡ span.stop = omega (arith, s.high) in
        rw (e, es)
        (by (tray_reach τ t master) answers_are (subst (λ (p : Span). Answering p before room p.stop) es (subst (Answering span before room) all s)))
      where
        by : (reach : Reach) → Replies (reach_span τ.count reach) → Answering (reach_span τ.count reach) before room (reach_span τ.count reach).stop
            → unheard_of t (reach_span τ.count reach).stop room ≡ tray_reply t master reach τ ++ drop t.count before
        by (one j) are s =
            let n : j + 1 - j ≡ 1 = omega arith in
            rw (add-one j, ← are j (omega arith) (omega arith)) (rw n at s.line)
        by every are s = all_wired τ.count are s
        by nobody are s = all_wired 0 are s

    -- ---- a transaction that changes packs is answered with FFh alone

    answer_high : (i : ℕ) → changing_of t ≡ true → answer_at i ≡ line_high t
    unfolding source_byte
    answer_high i = by (selecting_of t.rom) t.command _
      where
        by : (chosen : Bool) (x : Command) (net : Source) → both chosen (can_change x) ≡ true
            → listed (source_byte (pack_of τ i).common (pack_of τ i).label (pack_of τ i).meter (pick chosen (read_source_of x t.address) net)) 0 t.count
            ≡ line_high t
        by false x net e = absurd (never (sym e))
        by true command.Read net e = absurd (never (sym e))
        by true command.Write net e = refl
        by true command.Copy net e = refl
        by true command.Recall net e = refl
        by true command.Lock net e = refl
        by true command.Nothing net e = absurd (never (sym e))

    high_twice : (i n : ℕ) → and_bytes (listed (λ j. 0xff) i n) (listed (λ j. 0xff) i n) ≡ listed (λ j. 0xff) i n
    high_twice i zero = refl
    high_twice i (suc n) = (λ x. and_ones 0xff (omega arith) x ∷ high_twice (i + 1) n x)

    wired_high : (n : ℕ) → Replies (record { first = 0; stop = n }) → changing_of t ≡ true → wired_first t master τ n ≡ line_high t
    wired_high zero are e = refl
    wired_high (suc n) are e =
        let reply = sym (are n (omega arith) (omega arith)) ∙ answer_high n e in
        (λ x. and_bytes (wired_high n (λ i low below. are i low (omega arith)) e x) (reply x)) ∙ high_twice 0 t.count

    pub changing_high : changing_of t ≡ true → line_high t ≡ tray_reply t master (tray_reach τ t master) τ
    changing_high e = sym (by (tray_reach τ t master) answers_are)
      where
        by : (reach : Reach) → Replies (reach_span τ.count reach) → tray_reply t master reach τ ≡ line_high t
        by (one j) are = sym (are j (omega arith) (omega arith)) ∙ answer_high j e
        by every are = wired_high τ.count are e
        by nobody are = refl
