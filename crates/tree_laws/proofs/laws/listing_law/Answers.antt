use Rattle.tree_laws.proofs.Listing.{lists}
use Rattle.tree_laws.proofs.laws.listing_law.Goals as goal

pub returns : goal.returns
returns c = lists
