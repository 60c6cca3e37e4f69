-- An accepted SWEEP marks and removes by midnights.
use mathlib.Core.Path.{◌≡◌, sym, ◌∙◌, ap, subst⁻¹}
use Rattle.std.specs.Prelude.{Some}
use lib.Dec.{eqb}
use lib.ListN.{length}
use borrow.Author.Tests.{eqb-true}
use Rattle.buffers.specs.Texts.{bytes}
use Rattle.buffers.proofs.Tests.{and_l, and_r}
use Rattle.dates.specs.Reading.{read_date}
use Rattle.model.specs.Requests.{Sweep}
use Rattle.model.specs.Effects.{after}
use Rattle.model.specs.Expiry.{SweptByMidnights}
use Rattle.model.proofs.Invariant.{asked}
use Rattle.model.proofs.Expiry.{swept_by_midnights}
use Rattle.table.specs.Layout.{capacity}
use Rattle.bucket.specs.Whole.{Lent, bucket_of}
use Rattle.bucket.proofs.Whole.{whole_parts}
use Rattle.request.specs.Grammar as grammar
use Rattle.request.proofs.Words.{line_clock, asks_sweep}
use Rattle.outcome.specs.Outcome.{outcome}
use Rattle.outcome.proofs.Demands.{outcome_number, accepted_of_whole}
use Rattle.outcome.proofs.Kept.{accepted_bucket}
use Rattle.knitpasture.specs.Bytes.{lent_of}
use Rattle.guarantee.specs.Calls.{step}
use Rattle.guarantee.specs.Expiry.{SweepsByMidnights, SweepsByMidnightsBytes}
use Rattle.guarantee.proofs.Said.{accepted_read, read_field, read_same}
use Rattle.guarantee.proofs.Bytes.{accepted_sized, served_spelled, spelled_after}

pub sweeps_by_midnights : SweepsByMidnights
sweeps_by_midnights b g clock e d =
    let z = eqb-true _ 0 (and_l _ _ e) in
    let r = accepted_read b g z in
    let who = (grammar.asked (length g.answer) r.said).context in
    let v : r.said.verb ≡ Sweep = asks_sweep r.bytes r.said (read_same r 2 (bytes "SWEEP") (and_r (eqb (outcome b g).number 0) _ e)) r.reads in
    let w = accepted_of_whole b g z in
    let left_is : bucket_of (step b g) ≡ after (bucket_of b) (asked who Sweep) = accepted_bucket b g _ w r.hears (sym (outcome_number b g) ∙ z) ∙ rw v in
    let t : Some r.said.clock ≡ Some clock = sym (line_clock r.bytes r.said r.reads) ∙ ap read_date (sym (read_field r 0)) ∙ d in
    let same_clock : r.said.clock ≡ clock = cc in
    rw (sym same_clock) (subst⁻¹ (SweptByMidnights who.clock (bucket_of b)) left_is (swept_by_midnights (capacity b.keys) (bucket_of b) who (whole_parts b w).is_sound))

pub sweeps_by_midnights_bytes : SweepsByMidnightsBytes
sweeps_by_midnights_bytes b g clock e d =
    let sized = accepted_sized b g (eqb-true _ 0 (and_l _ _ e)) in
    subst⁻¹ (λ (l : Lent). SweptByMidnights clock (bucket_of (lent_of b)) (bucket_of l)) (spelled_after _ b g sized)
    (sweeps_by_midnights (lent_of b) g clock (served_spelled b g (bytes "SWEEP") e) d)
