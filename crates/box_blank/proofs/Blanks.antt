-- The five numbers of a clear: all 0.
use mathlib.Core.Path.{◌≡◌, sym, ap, ◌∙◌}
use mathlib.Core.Logic.{◌↔◌}
use mathlib.Core.Bool.{Bool, true, ◌&&◌}
use lib.Dec.{eqb}
use Rattle.std.proofs.lemmas.Bool.Decides.{Decides-and, Decides-eqb}
use Rattle.rules_box.specs.declared.Watchdog.{Watchdog}
use Rattle.rules_box.specs.State.{watchdog_cleared}

five-zeros : (w : Watchdog) → w.last ≡ 0 → w.seen ≡ 0 → w.reported ≡ 0 → w.least ≡ 0 → w.greatest ≡ 0 → w ≡ watchdog_cleared
unfolding watchdog_cleared
five-zeros w a b c d e = λ i. record { last = a i; seen = b i; reported = c i; least = d i; greatest = e i }

-- a watchdog compared with one whose numbers are 0
pub same-as-zeros : {r : Bool} (w d : Watchdog)
    → r ≡ (eqb w.last d.last && (eqb w.seen d.seen && (eqb w.reported d.reported && (eqb w.least d.least && eqb w.greatest d.greatest))))
    → (d.last ≡ 0) × ((d.seen ≡ 0) × ((d.reported ≡ 0) × ((d.least ≡ 0) × (d.greatest ≡ 0)))) → (r ≡ true) ↔ (w ≡ watchdog_cleared)
unfolding watchdog_cleared
same-as-zeros w d told z =
    let each =
    Decides-and _ _ (Decides-eqb w.last d.last)
    (Decides-and _ _ (Decides-eqb w.seen d.seen) (Decides-and _ _ (Decides-eqb w.reported d.reported) (Decides-and _ _ (Decides-eqb w.least d.least) (Decides-eqb w.greatest d.greatest)))) in (
      λ t. let s = each.0 (sym told ∙ t) in five-zeros w (s.0 ∙ z.0) (s.1.0 ∙ z.1.0) (s.1.1.0 ∙ z.1.1.0) (s.1.1.1.0 ∙ z.1.1.1.0) (s.1.1.1.1 ∙ z.1.1.1.1),
      λ e. told ∙ each.1 (
        ap (λ (v : Watchdog). v.last) e ∙ sym z.0,
        (
          ap (λ (v : Watchdog). v.seen) e ∙ sym z.1.0,
          (
            ap (λ (v : Watchdog). v.reported) e ∙ sym z.1.1.0,
            (ap (λ (v : Watchdog). v.least) e ∙ sym z.1.1.1.0, ap (λ (v : Watchdog). v.greatest) e ∙ sym z.1.1.1.1),
          ),
        ),
      ),
    )
