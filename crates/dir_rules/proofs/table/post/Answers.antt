use Rattle.std.proofs.Common.{subst}
use Rattle.std.specs.Prelude.{List}
use Rattle.accounts.specs.declared.postings.Posting.{Posting}
use Rattle.records.specs.Part.{part_of}
use Rattle.dir_rules.proofs.Named.{named_one_by_one}
use Rattle.dir_rules.proofs.table.post.Goals as goal

pub returns : goal.returns
returns g c =
    subst (λ (ps : List Posting). g.P.Poster.Leaves c.args.into.now c.post_by.new.into c.post_by.result ps)
    (named_one_by_one c.args.tree (part_of c.args.part.now)) c.post_by.ensures
