-- `field::head_at` meets its contract: each way out knows the tests of the rows up to the one that decides. Assumes nothing.
use mathlib.Core.Path.{sym, ap, ◌∙◌}
use mathlib.Core.Bool.{true, false}
use native.Mathlib.Omega.{arith}
use borrow.Author.Tests.{eqb-true}
use Rattle.lists.specs.Rows.{first_of}
use Rattle.rules_plan.specs.Fields.{length_allowed, tag_at}
use Rattle.file_field.specs.Head.{field}
use Rattle.file_field.proofs.field.Heads.{past_end, unknown, wrong_order, judged, falls, comes-again, in_order_lem}
use Rattle.file_field.proofs.field.head_at.Goals as goal
use Rattle.file_field.proofs.field.head_at.Goals.{then-tag-before-via-then-tag-before, then-tag-before-via-else-tag-before+then-comes_once, then-tag-before-2, else-tag-before-2}

pub returns-then-left-lt3 : goal.returns-then-left-lt3
returns-then-left-lt3 c = past_end _ _ _ (omega (arith, c.saturating_sub-left.ensures))

pub returns-then-left-size : goal.returns-then-left-size
returns-then-left-size c = past_end _ _ _ (omega (arith, c.saturating_sub-left.ensures, c.two_at-size.ensures))

pub returns-then-not-is_tag : goal.returns-then-not-is_tag
returns-then-not-is_tag c =
    unknown _ _ _ (omega (arith, c.saturating_sub-left.ensures, c.two_at-size.ensures)) (sym c.is_tag.ensures ∙ c.if-not-is_tag.true)

pub returns-then-tag-before : goal.returns-then-tag-before
returns-then-tag-before c =
    let a = c.args in
    let tag = tag_at a.file.now a.at in
    wrong_order a.file.now a.at a.before (omega (arith, c.saturating_sub-left.ensures, c.two_at-size.ensures)) (sym c.is_tag.ensures ∙ c.if-not-is_tag.false)
    (elim c.then-tag-before.branch [
      | then-tag-before-via-then-tag-before w ↦ falls tag a.before w.if-tag-before.true
      | then-tag-before-via-else-tag-before+then-comes_once w ↦ elim w.if-tag-before-2.branch [
        | then-tag-before-2 v ↦ comes-again tag a.before v.if-tag-before-2.true (sym v.comes_once.ensures ∙ sym v.value-is ∙ w.if-comes_once.true)
        | else-tag-before-2 v ↦ absurd (v.if-tag-before-2.false (eqb-true tag a.before (sym v.value-is ∙ w.if-comes_once.true)))
      ]
    ])

pub returns-then-not-length_allowed : goal.returns-then-not-length_allowed
unfolding first_of
returns-then-not-length_allowed c =
    let a = c.args in
    let tag = tag_at a.file.now a.at in
    judged a.file.now a.at a.before (omega (arith, c.saturating_sub-left.ensures, c.two_at-size.ensures)) (sym c.is_tag.ensures ∙ c.if-not-is_tag.false)
    (in_order_lem tag a.before c.if-tag-before.false (elim c.if-tag-before-2.branch [ then-tag-before-2 v ↦ λ e. sym v.comes_once.ensures ∙ sym v.value-is ∙ c.if-comes_once.false | else-tag-before-2 v ↦ λ e. absurd (v.if-tag-before-2.false e) ]))
    false (ap (length_allowed tag) (sym c.two_at-size.ensures) ∙ sym c.length_allowed.ensures ∙ c.if-not-length_allowed.true)

pub returns : goal.returns
unfolding first_of
returns c =
    let a = c.args in
    let tag = tag_at a.file.now a.at in
    ap (field tag) c.two_at-size.ensures
    ∙ judged a.file.now a.at a.before (omega (arith, c.saturating_sub-left.ensures, c.two_at-size.ensures)) (sym c.is_tag.ensures ∙ c.if-not-is_tag.false)
    (in_order_lem tag a.before c.if-tag-before.false (elim c.if-tag-before-2.branch [ then-tag-before-2 v ↦ λ e. sym v.comes_once.ensures ∙ sym v.value-is ∙ c.if-comes_once.false | else-tag-before-2 v ↦ λ e. absurd (v.if-tag-before-2.false e) ]))
    true (ap (length_allowed tag) (sym c.two_at-size.ensures) ∙ sym c.length_allowed.ensures ∙ c.if-not-length_allowed.false)
