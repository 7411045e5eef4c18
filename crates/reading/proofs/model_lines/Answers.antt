use Rattle.reading.specs.Product.{product_of}
use Rattle.reading.proofs.Product.{product_lines}
use Rattle.reading.proofs.model_lines.Goals as goal

pub returns-clause-value : goal.returns-clause-value
unfolding product_of
returns-clause-value c = simp (
  c.empty_line-2.ensures,
  c.weighed-3.ensures.value,
  c.empty_line.ensures,
  c.weighed-2.ensures.value,
  c.full_line.ensures,
  c.weighed.ensures.value,
  c.segments-degrees.ensures,
) (product_lines _ _)
