-- What an entry permits, told from a request's word.
use Rattle.std.proofs.Common.{◌≡◌, ℕ, ◌&&◌, leb}
use Rattle.bitsets.specs.Set.{member}
use Rattle.rules_plan.specs.Plan.{Entry}
use Rattle.memory_plan.specs.View.{Owner, Tells}
use Rattle.memory_plan.specs.laws.Entries.{permits-told}
use Rattle.rules_box.specs.State.{Request}
use Rattle.rules_box.specs.Turn.{allows}
use Rattle.rules_box.specs.laws.Fit.{FitRequest}
use Rattle.memory_run.specs.Run.{word_of, target_in, need_in}
use Rattle.memory_run.specs.laws.Words.{apart, need-in}

pub allows-word : (n : Owner) (e : Entry) (r : Request) (targets span : ℕ) → Tells n targets span e → FitRequest r → (word target need : ℕ) → word ≡ word_of n r
    → target ≡ target_in word → need ≡ need_in word → member target targets && leb need span ≡ allows n.plan e r
unfolding allows
allows-word n e r targets span tells f word target need is t l =
    rw (t, l, is, (apart n r f).target, need-in n r f) (permits-told n targets span e tells r.target r.length)
