-- The contracts of this crate's public functions leave no choice.
use Rattle.std.proofs.Common.{◌≡◌, sym, refl, ◌∙◌}
use Rattle.numbers.specs.Once.{Once}
use Rattle.digits.proofs.Unique.{same}
use Rattle.intel_hex.proofs.U8FromFault.from as fault
use Rattle.intel_hex.specs.contracts.U8FromFault.from as fault'
use Rattle.intel_hex.proofs.U8FromHexRefusal.from as refusal
use Rattle.intel_hex.specs.contracts.U8FromHexRefusal.from as refusal'
use Rattle.intel_hex.proofs.data_record
use Rattle.intel_hex.specs.contracts.data_record as data_record'
use Rattle.intel_hex.proofs.put_line
use Rattle.intel_hex.specs.contracts.put_line as put_line'
use Rattle.intel_hex.proofs.byte_in
use Rattle.intel_hex.specs.contracts.byte_in as byte_in'
use Rattle.intel_hex.proofs.address_in
use Rattle.intel_hex.specs.contracts.address_in as address_in'
use Rattle.intel_hex.proofs.checked_line
use Rattle.intel_hex.specs.contracts.checked_line as checked_line'
use Rattle.intel_hex.proofs.put_data
use Rattle.intel_hex.specs.contracts.put_data as put_data'
use Rattle.intel_hex.proofs.first_bad
use Rattle.intel_hex.specs.contracts.first_bad as first_bad'
use Rattle.intel_hex.proofs.first_gap
use Rattle.intel_hex.specs.contracts.first_gap as first_gap'
use contract.Lifetimes.{Lfts}
use denote.Triple.Entry.{Args, Res}
use denote.Triple.Clauses.{Ended, AtExit, Lasts, at_exit}
use Rattle.intel_hex.proofs.export_label
use Rattle.intel_hex.specs.contracts.export_label as export_label'
use Rattle.intel_hex.proofs.write_text
use Rattle.intel_hex.specs.contracts.write_text as write_text'
use Rattle.intel_hex.proofs.read_text
use Rattle.intel_hex.specs.contracts.read_text as read_text'

pub fault_number_once : Once fault'.ended fault.Reads.Pre fault.Reads.Learnt
fault_number_once κs a r r' w w' p h h' = (h ∙ sym h', refl)

pub data_record_once : Once data_record'.ended data_record.Reads.Pre data_record.Reads.Learnt
data_record_once κs a r r' w w' p h h' = (h ∙ sym h', refl)

pub put_line_once : Once put_line'.ended put_line.Reads.Pre put_line.Reads.Learnt
put_line_once κs a r r' w w' p h h' = (refl, λ i. (tt, (same h h' i, tt)))

pub byte_in_once : Once byte_in'.ended byte_in.Reads.Pre byte_in.Reads.Learnt
byte_in_once κs a r r' w w' p h h' = (h ∙ sym h', refl)

pub address_in_once : Once address_in'.ended address_in.Reads.Pre address_in.Reads.Learnt
address_in_once κs a r r' w w' p h h' = (h ∙ sym h', refl)

pub checked_line_once : Once checked_line'.ended checked_line.Reads.Pre checked_line.Reads.Learnt
checked_line_once κs a r r' w w' p h h' = (h ∙ sym h', refl)

pub first_bad_once : Once first_bad'.ended first_bad.Reads.Pre first_bad.Reads.Learnt
first_bad_once κs a r r' w w' p h h' = (h.0 ∙ sym h'.0, refl)

pub first_gap_once : Once first_gap'.ended first_gap.Reads.Pre first_gap.Reads.Learnt
first_gap_once κs a r r' w w' p h h' = (h ∙ sym h', refl)

pub put_data_once : Once put_data'.ended put_data.Reads.Pre put_data.Reads.Learnt
put_data_once κs a r r' w w' p h h' = (refl, λ i. (tt, (same h h' i, tt)))

pub refusal_number_once : Once refusal'.ended refusal.Reads.Pre refusal.Reads.Learnt
refusal_number_once κs a r r' w w' p h h' = (h ∙ sym h', refl)

-- `Once` of what is seen of a result. A part of what was lent is a place and its bytes; of these the contract fixes the bytes, and the lifetime that it
-- is in one of the two images
module _ (T : Ended) {X : Type 0} (seen : (κs : Lfts T.signature.lifetimes) → Res T.signature κs → X) where
  abbrev OnceSeen : ((κs : Lfts T.signature.lifetimes) → Args T.signature κs → Type 0)
      → ((κs : Lfts T.signature.lifetimes) → Args T.signature κs → Res T.signature κs → AtExit T κs → Type 0) → Type 0
  OnceSeen Pre Learnt =
      (κs : Lfts T.signature.lifetimes) (a : Args T.signature κs) (r r' : Res T.signature κs) (w w' : Lasts T κs a) →
      Pre κs a →
      Learnt κs a r (at_exit T κs a w) →
      Learnt κs a r' (at_exit T κs a w') →
      (seen κs r ≡ seen κs r') × (w ≡ w')

pub export_label_once : OnceSeen export_label'.ended (λ κs r. r.now) export_label.Reads.Pre export_label.Reads.Learnt
export_label_once κs a r r' w w' p h h' = (h ∙ sym h', refl)

pub write_text_once : Once write_text'.ended write_text.Reads.Pre write_text.Reads.Learnt
write_text_once κs a r r' w w' p h h' = (h.answer ∙ sym h'.answer, λ i. (tt, (tt, ((h.written ∙ sym h'.written) i, tt))))

pub read_text_once : Once read_text'.ended read_text.Reads.Pre read_text.Reads.Learnt
read_text_once κs a r r' w w' p h h' = (h.answer ∙ sym h'.answer, λ i. (tt, ((h.written ∙ sym h'.written) i, tt)))
