use Rattle.std.proofs.Common.{ℕ, ◌≡◌, ◌≤◌, List, length, set, length-set, refl, ap, ◌∙◌, arith, MutBor}
use Rattle.rules.specs.Inquiries.{facts_of}
use Rattle.rules.specs.Walks.{Linked}
use Rattle.rules.proofs.Frame.{asks_none, asks_on, looks_on, only_of}
use Rattle.rules.proofs.Marks.{begun_small, begun_walking, turn_small, turn_less, turn_walking, walked, not_led, linked_far}
use Rattle.rules.proofs.inquiry.Inquiry.walk.Goals as goal

pub loop-role-init : goal.loop-role-init
loop-role-init g c =
    let x = c.args.first.now in
    let z = c.clear.ensures.zeros in
    let p = c.pend.ensures.pended in
    (begun_small x z p, λ _. begun_walking x z p {L = Linked c.args.way (facts_of c.args.self.now)}, asks_none g.S.Store c.args.self.now.store.now, refl, refl, refl, refl)

pub loop-role-smaller : goal.loop-role-smaller
loop-role-smaller g c =
    let stay = ap (λ (x : MutBor (List ℕ)). x.now) (c.collect-next.ensures.looks.marks ∙ c.ask.ensures.looks.marks) in
    turn_less c.collect-next.result _ c.in-Some.ensures.role (omega (arith, c.pending.ensures.all)) stay c.pend-in-Some.ensures.pended

pub loop-role-preserved : goal.loop-role-preserved
loop-role-preserved g c =
    let i = c.loop-role.invariant in
    let x = c.collect-next.result in
    let at = c.in-Some.ensures.role in
    let b = c.loop-role.self.marks.now in
    let long : 64 ≤ length b = omega (arith, c.pending.ensures.all) in
    let looks = looks_on c.ask.ensures.looks c.collect-next.ensures.looks in
    let stay : c.collect-next.new.self.marks.now ≡ set b c.in-Some.role 1 = ap (λ (y : MutBor (List ℕ)). y.now) looks.marks in
    let p = c.pend-in-Some.ensures in
    let next = λ (h : g.S.Store.sound c.args.self.now.store.now). rw (c.ask.ensures.looks.same, i.3) at c.collect-next.ensures.value (c.ask.ensures.looks.asks.kept (i.2.kept h)) in
    let goal = λ (h : g.S.Store.sound c.args.self.now.store.now). rw i.3 at c.if-ask.ensures.value (i.2.kept h) in (
      turn_small x b at long stay p.pended i.0,
      λ h. turn_walking x b at long stay p.pended (next h) (goal h) (i.1 h),
      asks_on g.S.Store i.2 looks.asks,
      looks.same ∙ i.3,
      looks.lent ∙ i.4,
      ap (λ (y : MutBor (List ℕ)). y.ghost_name) looks.marks ∙ i.5,
      p.long ∙ ap length stay ∙ length-set b c.in-Some.role 1 ∙ i.6,
    )

pub returns-clause-value : goal.returns-clause-value
returns-clause-value g c h =
    let i = c.loop-role.invariant in
    not_led (linked_far c.args.way _ (only_of c.args.self.now h)) i.0 c.in_default.ensures.role (i.1 h)

pub returns-clause-marks : goal.returns-clause-marks
returns-clause-marks g c h _ =
    let i = c.loop-role.invariant in
    walked (linked_far c.args.way _ (only_of c.args.self.now h)) i.0 c.in_default.ensures.role (i.1 h)
