-- `digits::Page::put_fives` meets its contract. Each call has fewer fives to put than the one before.
use Rattle.digits.proofs.Page.+put_fives.Given as goal

abbrev pub decreases-put_fives : goal.decreases-put_fives
decreases-put_fives l = l.more
