use Rattle.std.proofs.Common.{◌≡◌, length}
use Rattle.rules.specs.Asking.{Asks, Among}
use Rattle.rules.specs.Inquiries.{facts_of}
use Rattle.rules.specs.Walks.{Linked, Small, Walking, undone}
use Rattle.rules.proofs.inquiry.Inquiry.walk.Given as goal

abbrev pub invariant-loop-role : goal.invariant-loop-role
invariant-loop-role g l =
    let m = facts_of l.initial.self in
    Small l.self.marks.now
    × (g.S.Store.sound l.initial.self.store.now → Walking (Linked l.way m) (Among l.first) (g.G.Question.says l.goal m) l.self.marks.now)
    × Asks g.S.Store l.initial.self.store.now l.self.store.now
    × (facts_of l.self ≡ m)
    × (l.self.store.ghost_name ≡ l.initial.self.store.ghost_name)
    × (l.self.marks.ghost_name ≡ l.initial.self.marks.ghost_name)
    × (length l.self.marks.now ≡ length l.initial.self.marks.now)

abbrev pub decreases-loop-role : goal.decreases-loop-role
decreases-loop-role g l = undone l.self.marks.now 64
