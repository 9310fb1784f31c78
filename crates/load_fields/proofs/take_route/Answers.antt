-- `take_route` meets its contract: what is read of the content is the route of the item, a path or a reply. Assumes nothing.
use mathlib.Core.Path.{◌≡◌, sym, ap, ◌∙◌}
use mathlib.Core.Logic.{◌⊎◌, inl, inr}
use Prim.Native.Nat.{ℕ}
use native.Mathlib.Omega.{arith}
use Rattle.std.proofs.lemmas.Result.{err_from_is_err_and}
use Rattle.rules_plan.specs.Plan.{nth, reply}
use Rattle.rules_plan.specs.laws.Items.{no-times, no-replies}
use Rattle.memory_plan.specs.Memory.{paths_of, numbers_with}
use Rattle.rules_plan.specs.laws.Numbers.{some-fault}
use Rattle.load_path_faults.specs.Routes.{route}
use Rattle.load_paths.specs.laws.Passed.{faultless, taken-grows}
use Rattle.load_paths.specs.laws.KeptPlan.{kept-plan}
use Rattle.load_replies.specs.Home.{HomeTo}
use Rattle.load_fields.proofs.Taking.{links-in, few-links, path-read, reply-read, route-sized, rows_left, reach-left, as-route}
use Rattle.load_fields.proofs.Routes.{path-judged, room, reply-judged, has-path, stays}
use Rattle.load_fields.proofs.take_route.Goals as goal

pub bounds-content-0 : goal.bounds-content-0
bounds-content-0 c = omega (arith, (route-sized _ _ c.requires.0 c.requires.1).0)

pub bounds-content-1 : goal.bounds-content-1
bounds-content-1 c = omega (arith, (route-sized _ _ c.requires.0 c.requires.1).0)

pub slice_bounds-links-count : goal.slice_bounds-links-count
slice_bounds-links-count c = omega (arith, (route-sized _ _ c.requires.0 c.requires.1).0)

pub slice_bounds-links-start : goal.slice_bounds-links-start
slice_bounds-links-start c = omega (arith, (route-sized _ _ c.requires.0 c.requires.1).0)

pub returns-in_err-route_fault : goal.returns-in_err-route_fault
returns-in_err-route_fault c =
    let given = err_from_is_err_and c.from_residual.result c.from_residual.ensures.1 in
    rw (given.1, given.2)
    (λ size p x fair next is a b d e h g.
    let r = c.in_err-route_fault.ensures.value p fair a b in
    let f = some-fault c.in_err-route_fault.field-0.0 in
    elim c.requires.1 [
      | inl w ↦ as-route (path-read _ _ x w is) (stays size p _ (r ∙ path-judged (c.asked-a.ensures.0 w) size p fair d e g _) f d e h g)
      | inr w ↦ as-route (reply-read _ _ x w is) (stays size p _ (r ∙ reply-judged (c.asked-a.ensures.1 (λ z. absurd (omega (arith, w, z)))) size p fair h g _) f d e h g)
    ])

pub keep_path-requires : goal.keep_path-requires
keep_path-requires c =
    let q = c.asked-a.ensures.0 c.if-tag-eq3.true in
    let (row, paths) = room q c.in_ok-route_fault.ensures.again_value.1 in
    (q.row, row, paths, few-links _ c.args.content.now c.requires.0 c.requires.1)

pub returns-then-tag-eq3 : goal.returns-then-tag-eq3
returns-then-tag-eq3 c size p x fair next is a b d e h g =
    let w = c.if-tag-eq3.true in
    let q = c.asked-a.ensures.0 w in
    let z = c.in_ok-route_fault.ensures.value p fair a b ∙ path-judged q size p fair d e g _ in
    let up = next.up_to in
    let new = kept-plan size p fair _ z (few-links _ c.args.content.now c.requires.0 c.requires.1) d e h g (no-times p _ up (omega (arith, w))) (no-replies p _ up (omega (arith, w))) c.keep_path.ensures in
    as-route (path-read _ _ x w is) (record { answer = new.0; rows = new.1; reach = new.2; paths = new.3; numbers = new.4 })

pub keep_reply-requires : goal.keep_reply-requires
keep_reply-requires c =
    (has-path (c.asked-a.ensures.1 c.if-tag-eq3.false) c.in_ok-route_fault.ensures.again_value.2, few-links _ c.args.content.now c.requires.0 c.requires.1)

pub returns-else-tag-eq3 : goal.returns-else-tag-eq3
returns-else-tag-eq3 c size p x fair next is a b d e h g =
    let content = c.args.content.now in
    let y = route (nth content 1) (nth content 0) (links-in content) in
    let q = c.asked-a.ensures.1 c.if-tag-eq3.false in
    let z = c.in_ok-route_fault.ensures.value p fair a b ∙ reply-judged q size p fair h g _ in
    let (o, at, from, to) = (q.path size p fair h g).found (has-path q c.in_ok-route_fault.ensures.again_value.2) in
    let home : HomeTo p y o c.asked-a.result.place = record { fair = fair; passes = faultless p (reply y) (sym z); at = at; from = from; to = to } in
    let new = c.keep_reply.ensures size p o home d h g in
    let grown = sym (taken-grows p (reply y) (sym z)) in
    as-route (reply-read _ content x (seven c.requires.1 c.if-tag-eq3.false) is)
    (record { answer = z; rows = d ∙ rows_left p y; reach = e ∙ reach-left p y; paths = new.0 ∙ ap paths_of grown; numbers = new.1 ∙ ap (numbers_with size) grown })
  where
    seven : {n : ℕ} → (n ≡ 3) ⊎ (n ≡ 7) → (n ≡ 3 → ⊥) → n ≡ 7
    seven (inl w) z = absurd (z w)
    seven (inr w) z = w
