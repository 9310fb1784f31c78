-- `reply_asked` meets its contract. Assumes nothing.
use mathlib.Core.Path.{refl, ap}
use Prim.Native.Nat.{ℕ, ◌≤◌, ◌<◌}
use native.Mathlib.Omega.{arith}
use Rattle.std.specs.Prelude.{Option, Some, None, IfSome, unwrap_or}
use Rattle.rules_plan.specs.Plan.{nth}
use Rattle.memory_plan.specs.Memory.{numbers_with}
use Rattle.load_replies.proofs.reply_asked.Goals as goal

most : (r : Option ℕ) → IfSome r (λ k. k < 128) → unwrap_or r 128 ≤ 128
most None h = omega arith
most (Some k) h = omega arith

pub returns : goal.returns
unfolding numbers_with
returns c =
    let k = c.path_of in
    let told = c.unwrap_or-k.ensures in
    let count = c.at_most-count.ensures in
    record {
      from = refl;
      to = refl;
      within = rw told (most k.result k.ensures.0);
      path = λ size p f h g. rw told (k.ensures.1 p f h (omega (arith, count, f.lists.paths.most, ap (λ l. nth l 3) g)));
      given = c.has_reply.ensures;
      uncounted = refl;
      no-path = refl;
    }
