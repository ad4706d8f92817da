-- What stays of the pairs behind one when its block is closed. It serves to state what private functions keep.
use Rattle.std.specs.Prelude.{List, [], ◌∷◌, if◌then◌else◌}
use Rattle.live_index.specs.declared.live.Live.{Live}
use Rattle.live_maker.specs.Opened.{closes}

-- the pairs from the first on whose block closes that of one
unfoldable pub left_of : Live → List Live → List Live
left_of live [] = []
left_of live (one ∷ more) = if closes live one then one ∷ more else left_of live more
