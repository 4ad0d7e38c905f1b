-- The measure of `put_decimal` is the number: a tenth of it is less, from ten on.
use Rattle.text.proofs.page.Page.+put_decimal.Given as goal

abbrev pub decreases-put_decimal : goal.decreases-put_decimal
decreases-put_decimal l = l.n
