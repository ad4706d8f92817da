use Rattle.std.proofs.Common.{true, refl, sym, ◌∙◌}
use Rattle.span_index.proofs.FileLaws.{file_kept, file_put}
use Rattle.span_index.proofs.files.Files.add.Goals as goal

pub returns-clause-ok : goal.returns-clause-ok
returns-clause-ok c = file_put c.args.self.now.places c.insert.new.self _ _ true c.args.span.now _ refl refl (sym c.file_of.ensures ∙ c.in-Some.is) c.in_ok-insert.ensures.updates.0

pub returns-in_default-clause-ok : goal.returns-in_default-clause-ok
returns-in_default-clause-ok c = file_kept c.args.self.now true c.args.span.now (sym c.file_of.ensures ∙ c.in_default.is)
