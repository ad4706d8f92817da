-- One pair more is put into a table, or taken out of it.
use Rattle.std.proofs.Common.{◌≡◌, ℕ, ◌+◌, ◌<◌, List, length, take, get_or, ap, sym, ◌∙◌}
use Rattle.std.proofs.lemmas.List.Sums.{fold_more}
use Rattle.live_index.specs.Pairs.{Pairs, with_pair}
use Rattle.live_index.specs.declared.live.Live.{Live}
use Rattle.live_maker.specs.Tables.{with_pairs, without_live, without_pairs}

pub put_more : (old now new : Pairs) (lives : List Live) (i : ℕ) (d : Live) → i < length lives → now ≡ with_pairs old (take i lives)
    → new ≡ with_pair now (get_or lives i d) → new ≡ with_pairs old (take (i + 1) lives)
unfolding with_pairs
put_more old now new lives i d inside so is =
    is ∙ ap (λ pairs. with_pair pairs (get_or lives i d)) so ∙ sym (fold_more with_pair old lives i d inside)

pub take_more : (old now new : Pairs) (lives : List Live) (i : ℕ) (d : Live) → i < length lives → now ≡ without_pairs old (take i lives)
    → new ≡ without_live now (get_or lives i d) → new ≡ without_pairs old (take (i + 1) lives)
unfolding without_pairs
take_more old now new lives i d inside so is =
    is ∙ ap (λ pairs. without_live pairs (get_or lives i d)) so ∙ sym (fold_more without_live old lives i d inside)
