-- `products::covers::cover_of` meets its contract: the numbers of a sheet are small. Assumes nothing.
use Rattle.products.proofs.Improvements.{given_small}
use Rattle.products.proofs.covers.cover_of.Goals as goal

pub improvement-requires : goal.improvement-requires
improvement-requires c = given_small _ _ _ c.in-Ok.ensures
