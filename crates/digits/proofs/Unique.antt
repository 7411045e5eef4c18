-- The contracts of this crate's public functions leave no choice.
use mathlib.Core.Path.{refl, sym, ◌∙◌}
use Rattle.numbers.specs.Once.{Once}
use Rattle.std.specs.Prelude.{List, ℕ, ◌≡◌}
use Rattle.digits.specs.Digits.{Appends}
use Rattle.digits.specs.declared.Page.{Page}
use Rattle.digits.proofs.Page.new
use Rattle.digits.specs.contracts.Page.new as new'
use Rattle.digits.proofs.Page.put_byte
use Rattle.digits.specs.contracts.Page.put_byte as put_byte'
use Rattle.digits.proofs.Page.put_bytes
use Rattle.digits.specs.contracts.Page.put_bytes as put_bytes'
use Rattle.digits.proofs.lower_pairs
use Rattle.digits.specs.contracts.lower_pairs as lower_pairs'
use Rattle.digits.proofs.Page.put_entry
use Rattle.digits.specs.contracts.Page.put_entry as put_entry'
use Rattle.digits.proofs.hex
use Rattle.digits.specs.contracts.hex as hex'
use Rattle.digits.proofs.Page.put_hex
use Rattle.digits.specs.contracts.Page.put_hex as put_hex'
use Rattle.digits.proofs.Page.put_pairs
use Rattle.digits.specs.contracts.Page.put_pairs as put_pairs'
use Rattle.digits.proofs.upper_digits
use Rattle.digits.specs.contracts.upper_digits as upper_digits'
use Rattle.digits.proofs.upper_byte
use Rattle.digits.specs.contracts.upper_byte as upper_byte'
use Rattle.digits.proofs.packed
use Rattle.digits.specs.contracts.packed as packed'
use Rattle.digits.proofs.counted_up
use Rattle.digits.specs.contracts.counted_up as counted_up'
use Rattle.digits.proofs.Page.put_counted
use Rattle.digits.specs.contracts.Page.put_counted as put_counted'
use Rattle.digits.proofs.Page.put_decimal
use Rattle.digits.specs.contracts.Page.put_decimal as put_decimal'

pub new_once : Once new'.ended new.Reads.Pre new.Reads.Learnt
new_once κs a r r' w w' p h h' = (
  λ i. record {
    room =
        record { ref_ptr = (h.place ∙ sym h'.place) i; ghost_name = (h.lent ∙ sym h'.lent) i; now = (h.same ∙ sym h'.same) i };
    used = (h.front ∙ sym h'.front) i;
  },
  refl,
)

-- a page on which the same bytes are put ends the same
pub same : {m n : ℕ} {xs : List ℕ} {p q r : Page} → Appends m xs p q → Appends n xs p r → q ≡ r
same a b = λ i. record {
  room =
      record {
        ref_ptr = (a.place ∙ sym b.place) i;
        ghost_name = (a.lent ∙ sym b.lent) i;
        now = (a.writing.written ∙ sym b.writing.written) i;
      };
  used = (a.writing.onward ∙ sym b.writing.onward) i;
}

pub put_byte_once : Once put_byte'.ended put_byte.Reads.Pre put_byte.Reads.Learnt
put_byte_once κs a r r' w w' p h h' = (refl, λ i. (same h h' i, (tt, tt)))

pub put_bytes_once : Once put_bytes'.ended put_bytes.Reads.Pre put_bytes.Reads.Learnt
put_bytes_once κs a r r' w w' p h h' = (refl, λ i. (same h h' i, (tt, tt)))

pub lower_pairs_once : Once lower_pairs'.ended lower_pairs.Reads.Pre lower_pairs.Reads.Learnt
lower_pairs_once κs a r r' w w' p h h' = (h ∙ sym h', refl)

pub put_entry_once : Once put_entry'.ended put_entry.Reads.Pre put_entry.Reads.Learnt
put_entry_once κs a r r' w w' p h h' = (refl, λ i. (same h.0 h'.0 i, (tt, (tt, tt))))

pub hex_once : Once hex'.ended hex.Reads.Pre hex.Reads.Learnt
hex_once κs a r r' w w' p h h' = (h ∙ sym h', refl)

pub put_hex_once : Once put_hex'.ended put_hex.Reads.Pre put_hex.Reads.Learnt
put_hex_once κs a r r' w w' p h h' = (refl, λ i. (same h h' i, (tt, (tt, tt))))

pub put_pairs_once : Once put_pairs'.ended put_pairs.Reads.Pre put_pairs.Reads.Learnt
put_pairs_once κs a r r' w w' p h h' = (refl, λ i. (same h h' i, (tt, (tt, tt))))

pub upper_digits_once : Once upper_digits'.ended upper_digits.Reads.Pre upper_digits.Reads.Learnt
upper_digits_once κs a r r' w w' p h h' = (h ∙ sym h', refl)

pub upper_byte_once : Once upper_byte'.ended upper_byte.Reads.Pre upper_byte.Reads.Learnt
upper_byte_once κs a r r' w w' p h h' = (h ∙ sym h', refl)

pub packed_once : Once packed'.ended packed.Reads.Pre packed.Reads.Learnt
packed_once κs a r r' w w' p h h' = (h ∙ sym h', refl)

pub counted_up_once : Once counted_up'.ended counted_up.Reads.Pre counted_up.Reads.Learnt
counted_up_once κs a r r' w w' p h h' = (h ∙ sym h', refl)

pub put_counted_once : Once put_counted'.ended put_counted.Reads.Pre put_counted.Reads.Learnt
put_counted_once κs a r r' w w' p h h' = (refl, λ i. (same h h' i, (tt, (tt, (tt, tt)))))

pub put_decimal_once : Once put_decimal'.ended put_decimal.Reads.Pre put_decimal.Reads.Learnt
put_decimal_once κs a r r' w w' p h h' = (refl, λ i. (same h h' i, (tt, tt)))
