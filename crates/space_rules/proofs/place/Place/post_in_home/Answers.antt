use Rattle.std.proofs.Common.{ap, rules, sym, subst, ◌∙◌}
use Rattle.accounts.specs.Posts.{Posts}
use Rattle.accounts.specs.PostsLaws.{posts_pass}
use Rattle.accounts.proofs.Behind.{posts_cut, posts_more}
use Rattle.space_rules.specs.RunPostings.{run_postings}
use Rattle.space_rules.proofs.Runs.{owned_sectors}
use Rattle.space_rules.proofs.place.Place.post_in_home.Goals as goal

pub returns-in_err-put : goal.returns-in_err-put
returns-in_err-put c = posts_cut posts_pass _ (rw c.taken.ensures at c.put.ensures) (search rules) c.from_residual.ensures.0

pub returns-in_err-post_run : goal.returns-in_err-post_run
returns-in_err-post_run c =
    let same = ap run_postings c.owned.ensures ∙ sym (owned_sectors c.args.self.now.of_data c.args.self.now.address c.args.self.now.length) in
    let sectors = subst (Posts c.put.new.self c.post_run.new.into c.post_run.result) same c.post_run.ensures in
    posts_more posts_pass (rw c.taken.ensures at c.put.ensures) (search rules) (posts_cut posts_pass _ sectors (search rules) c.from_residual-in_err-post_run.ensures.0)

pub returns : goal.returns
returns c =
    let same = ap run_postings c.owned.ensures ∙ sym (owned_sectors c.args.self.now.of_data c.args.self.now.address c.args.self.now.length) in
    let sectors = subst (Posts c.put.new.self c.post_run.new.into c.post_run.result) same c.post_run.ensures in
    posts_more posts_pass (rw c.taken.ensures at c.put.ensures) (search rules) (posts_more posts_pass sectors (search rules) c.post_class.ensures)
