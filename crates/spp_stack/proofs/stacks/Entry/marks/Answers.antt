use Rattle.spp_stack.proofs.Linked.{first_marks}
use Rattle.spp_stack.proofs.stacks.Entry.marks.Goals as goal

pub returns-clause-sites : goal.returns-clause-sites
returns-clause-sites c = λ fs h x. first_marks c.new-sites.result _ _ x c.new-sites.ensures (c.in_ok-mark_sites.ensures fs h x)

pub returns-clause-funcs : goal.returns-clause-funcs
returns-clause-funcs c = λ fs h x. first_marks c.new-funcs.result _ _ x c.new-funcs.ensures (c.in_ok-mark_funcs.ensures fs h x)
