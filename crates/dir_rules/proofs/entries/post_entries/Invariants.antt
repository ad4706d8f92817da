use Rattle.fs_items.specs.Lent.{dir_in, entries_left}
use Rattle.accounts.proofs.Behind.{Leaves}
use Rattle.dir_rules.proofs.entries.post_entries.Given as goal

-- what posts those that are left posts all
abbrev pub invariant-loop-entry : goal.invariant-loop-entry
invariant-loop-entry g l =
    Leaves g.P.Poster.Leaves (g.W.NameWay.of_entry l.tree l.item.key) l.fn.into l.into (entries_left l.entry-iterator) (dir_in l.item).entries
