-- The exit of a `?`: a step's fault is that of the whole.
use Rattle.std.proofs.Common.{◌≡◌, ◌∙◌, ap, sym, subst}
use Rattle.std.specs.Prelude.{Result, Err, IsErrAnd}
use Rattle.std.proofs.lemmas.Result.{err_from_is_err_and}
use Rattle.xmp_values.specs.declared.stops.PlaceStop.{PlaceStop}
use Rattle.xmp_values.specs.declared.stops.PlaceStop.TheVariants as stops
use Rattle.xmp_values.specs.Stops.{place_of, Stops, Gives, Makes}
use Rattle.xmp_rdf.specs.Meanings.{Fault}

-- a step's fault is that of the whole
pub fails_whole : {X Y : Type 0} (e : PlaceStop) (step : Result X Fault) (whole : Result Y Fault) → ((f : Fault) → step ≡ Err f → whole ≡ Err f) →
    Stops place_of e (λ f. step ≡ Err f) → Stops place_of e (λ f. whole ≡ Err f)
fails_whole stops.Memory step whole halts fails = tt
fails_whole (stops.Fault r at) step whole halts fails = halts (r, at) fails

-- what holds of the stop holds of what is returned
pub exit_to : {Y : Type 0} (r : Result Y PlaceStop) (e : PlaceStop) (holds : Result Y PlaceStop → Type 0) → IsErrAnd r (λ y. y ≡ e) → holds (Err e) → holds r
exit_to r e holds told at_stop =
    let p = err_from_is_err_and r told in
    let same : r ≡ Err e = p.1 ∙ ap Err p.2 in
    subst holds (sym same) at_stop

pub exit : {X Y : Type 0} (r : Result Y PlaceStop) (e : PlaceStop) (step : Result X Fault) (whole : Result Y Fault) → IsErrAnd r (λ y. y ≡ e) →
    Stops place_of e (λ f. step ≡ Err f) → ((f : Fault) → step ≡ Err f → whole ≡ Err f) → Gives place_of r whole
exit r e step whole told fails halts = exit_to r e (λ s. Gives place_of s whole) told (fails_whole e step whole halts fails)

-- of a call that changes a value in place
pub exit_made : {X Y : Type 0} (r : Result (Unit {0}) PlaceStop) (next : Y) (e : PlaceStop) (step : Result X Fault) (whole : Result Y Fault) → IsErrAnd r (λ y. y ≡ e) →
    Stops place_of e (λ f. step ≡ Err f) → ((f : Fault) → step ≡ Err f → whole ≡ Err f) → Makes place_of r next whole
exit_made r next e step whole told fails halts = exit_to r e (λ s. Makes place_of s next whole) told (fails_whole e step whole halts fails)
