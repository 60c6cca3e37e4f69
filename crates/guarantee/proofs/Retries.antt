-- What a retry comes to, and that a PUT sent twice is a PUT sent once.
use Prim.Native.Nat.{ℕ, ◌+◌, ◌≤◌, max}
use mathlib.Core.Path.{◌≡◌, refl, sym, ◌∙◌, ap, ap₂, subst⁻¹}
use mathlib.Core.Logic.{◌⊎◌, inl, inr}
use mathlib.Core.Bool.{Bool, true, false}
use mathlib.Core.List.{List, [], ◌∷◌, ◌++◌}
use Rattle.std.specs.Prelude.{Some}
use native.Mathlib.Omega.{arith}
use lib.Dec.{eqb}
use lib.ListN.{length, take, drop}
use borrow.Author.Tests.{eqb-true, le-ltb}
use Rattle.buffers.specs.Lists.{same}
use Rattle.buffers.specs.Texts.{bytes}
use Rattle.buffers.specs.Words.{spelled}
use Rattle.buffers.proofs.Tests.{and_l, and_r}
use Rattle.buffers.proofs.Choices.{pick_ways}
use Rattle.text.specs.Fields.{field_of}
use Rattle.model.specs.Rows.{Row}
use Rattle.model.specs.Settings.{Bucket}
use Rattle.model.specs.Requests.{numbered, Terms, Verb, Put, Ask, Repeat, Context, Request, Heard, says}
use Rattle.model.specs.Time.{now_of}
use Rattle.model.specs.Effects.{added, rows_after, after}
use Rattle.model.specs.Retries.{IsRetry, meant, meaning}
use Rattle.model.specs.Refusals.{least_room, first_of, short_for_page, missing, names_marker, barred, too_late}
use Rattle.model.specs.Answers.{Answer, made, repeated, reply, answer_to}
use Rattle.model.specs.Run.{Event}
use Rattle.model.specs.LockClause.{makes, puts_under, puts_on_hold, none_of}
use Rattle.model.proofs.Invariant.{asked}
use Rattle.model.proofs.Retries.{retry_of_lem, no_retry, retry_unspent, retry_fits, with_room, LeftRow, left_row, again_accepted}
use Rattle.settings.specs.Bytes.{settings_bytes}
use Rattle.settings.specs.declared.Settings.{Settings}
use Rattle.settings.specs.State.{state_of}
use Rattle.table.specs.Layout.{capacity}
use Rattle.table.proofs.Held.{rows_length}
use Rattle.bucket.specs.Whole.{Lent, lent, bucket_of, laid_out, whole}
use Rattle.bucket.proofs.Whole.{whole_parts}
use Rattle.request.specs.Grammar as grammar
use Rattle.request.proofs.Words.{AsksPut, asks_put}
use Rattle.answers.specs.Text.{answer_text}
use Rattle.answers.proofs.ReadBack.{version_back}
use Rattle.outcome.specs.Calls.{Call, heard_of, heard}
use Rattle.outcome.specs.Outcome.{Outcome, written, answered_by, refusal_of, outcome}
use Rattle.outcome.proofs.Demands.{accepted_request, outcome_number, accepted_of_whole}
use Rattle.outcome.proofs.Kept.{model_refusal, model_accepts, accepted_bucket, accepted_capacity, outcome_whole}
use Rattle.engine.proofs.Carrying.{settings_after_lem}
use Rattle.knitpasture.specs.Bytes.{Bytes, as_bytes, lent_of, numbers_bytes, ByteOutcome, byte_outcome, hub_served}
use Rattle.guarantee.specs.Calls.{step, is_accepted, answers_number, event_heard, call_event}
use Rattle.guarantee.specs.Bytes.{Sized, outcome_in_bytes, byte_step}
use Rattle.guarantee.specs.Exchanges.{exchange, byte_exchange, sent_field}
use Rattle.guarantee.specs.Retries.{settings_at, at_time, written_checks, Retried, RetryAddsNone, OtherPutMakes, is_put, line_in, SentTwice, SentTwiceBytes, SentLater, with_time_of, SentLaterBytes}
use Rattle.guarantee.proofs.Said.{Read, accepted_read, read_field, read_same}
use Rattle.guarantee.proofs.Bytes.{accepted_sized, same_number, accepted_bytes, served_spelled, sized_after, spelled_after}

-- ## An accepted call, by what it means

-- What is done of a request that means this.
abbrev meant_outcome : Lent → Request → List ℕ → Outcome
meant_outcome b m room = answered_by (answer_text (answer_to (bucket_of b) m)) (laid_out (capacity b.keys) (after (bucket_of b) m)) room

means_outcome : (b : Lent) (g : Call) (q m : Request) → heard g ≡ says q → meaning (bucket_of b) q ≡ m → (outcome b g).number ≡ 0 → outcome b g ≡ meant_outcome b m g.answer
means_outcome b g q m h e z = accepted_request b g q h (sym (outcome_number b g) ∙ z) ∙ ap (λ (x : Request). meant_outcome b x g.answer) e

-- ## A retry

same_lent : (s s' : Settings) (n n' keys keys' : List ℕ) → s ≡ s' → n ≡ n' → keys ≡ keys' → lent s n keys ≡ lent s' n' keys'
same_lent s s' n n' keys keys' e f g = rw (e, f, g)

module _ (b : Lent) (g : Call) (q : Request) (k : List ℕ) (body size : ℕ) (t : Terms) (x : Row)
    (h : heard g ≡ says q) (v : q.verb ≡ Put k body size t) (r : IsRetry (bucket_of b).rows k body size x) where
  abbrev retry : Request
  retry = asked q.context (Ask (Repeat (numbered x.number)))

  means_retry : meaning (bucket_of b) q ≡ retry
  means_retry = rw v (simp (retry_of_lem (bucket_of b).rows k body size x r))

  means : meant (bucket_of b).rows q.verb ≡ retry.verb
  means = ap (λ (m : Request). m.verb) means_retry

  no_page : short_for_page q.context.room q.verb ≡ false
  unfolding short_for_page
  no_page = rw v

  refusal_is : (w : Bool) → whole b ≡ w → refusal_of b g ≡ first_of (written_checks b q)
  unfolding refusal_of missing names_marker barred too_late
  refusal_is false e = rw e
  refusal_is true e =
      let c = capacity b.keys in
      let now = now_of (bucket_of b) q.context in
      let n = numbered x.number in
      let s = (whole_parts b e).is_sound in
      rw (h, means, no_page, retry_unspent c (bucket_of b) now n s, retry_fits c (bucket_of b) now n s)

  -- Time moves, and nothing else.
  left_is : whole b ≡ true → laid_out (capacity b.keys) (after (bucket_of b) retry) ≡ at_time b (now_of (bucket_of b) q.context).stamp
  unfolding added rows_after
  left_is w =
      let p = whole_parts b w in
      let s = b.settings in
      let z : s.next + 0 ≡ s.next = omega arith in
      same_lent _ _ _ _ _ _ (rw (z, rows_length b.numbers b.keys s.used) (sym (settings_after_lem (state_of s) s.rules retry.verb (now_of (bucket_of b) q.context).stamp s.used s.next refl p.prefixes))) (sym p.holds.numbers_are) (sym p.holds.keys_are)

  -- The event of the call, if it is accepted.
  abbrev told : Event
  told = record { before = bucket_of b; request = retry; answered = answers_number retry.verb (outcome b g).answer }

  told_is : event_heard (bucket_of b) (heard g) (outcome b g).answer ≡ told ∷ []
  told_is =
      ap (λ (l : Heard). event_heard (bucket_of b) l (outcome b g).answer) h
      ∙ ap (λ (m : Request). record { before = bucket_of b; request = m; answered = answers_number m.verb (outcome b g).answer } ∷ []) means_retry

  no_event : (p : Event → Bool) → p told ≡ false → none_of p (call_event b g) ≡ true
  no_event p f = pick_ways (λ (es : List Event). none_of p es ≡ true) (is_accepted b g) (λ _. rw (told_is, f)) (λ _. refl)

  retried : Retried b g q x
  unfolding reply
  retried =
      record {
        refusal_is = outcome_number b g ∙ refusal_is (whole b) refl;
        does = λ z. means_outcome b g q retry h means_retry z ∙ ap (λ (l : Lent). answered_by (answer_text (made (numbered x.number))) l g.answer) (left_is (accepted_of_whole b g z));
        makes_none = λ early n. no_event (makes early n) refl;
        puts_none_under = λ early mode d n. no_event (puts_under early mode d n) refl;
        puts_none_on_hold = λ early n. no_event (puts_on_hold early n) refl;
      }

pub retry_adds_none : RetryAddsNone
retry_adds_none = retried

pub other_put_makes : OtherPutMakes
unfolding reply
other_put_makes b g q k body size t h v none_is z =
    let same : meaning (bucket_of b) q ≡ q = rw v (simp (no_retry (bucket_of b).rows k body size none_is)) in
    means_outcome b g q q h same z ∙ rw v

-- ## A PUT, and the same file sent again on what it left

-- A version that is made and one that is repeated are printed alike.
version_text_lem : (n : ℕ) (a : Answer) → (a ≡ made (numbered n)) ⊎ (a ≡ repeated (numbered n)) → answer_text a ≡ answer_text (made (numbered n))
version_text_lem n a (inl e) = ap answer_text e
version_text_lem n a (inr e) = ap answer_text e

module _ (b : Lent) (g : Call) (who : Context) (k : List ℕ) (body size : ℕ) (t : Terms) (z : (outcome b g).number ≡ 0) (h : heard g ≡ says (asked who (Put k body size t))) where
  abbrev q : Request
  q = asked who (Put k body size t)

  refusal_0 : refusal_of b g ≡ 0
  refusal_0 = sym (outcome_number b g) ∙ z

  is_whole : whole b ≡ true
  is_whole = accepted_of_whole b g z

  does : outcome b g ≡ meant_outcome b (meaning (bucket_of b) q) g.answer
  does = accepted_request b g q h refusal_0

  bucket_is : bucket_of (step b g) ≡ after (bucket_of b) (meaning (bucket_of b) q)
  bucket_is = accepted_bucket b g q is_whole h refusal_0

  size_is : capacity (step b g).keys ≡ capacity b.keys
  size_is = ap (λ (o : Outcome). capacity o.bucket.keys) does ∙ accepted_capacity b.keys _

  -- The row that it made or repeated.
  made_row : LeftRow (bucket_of b) who k body size t
  made_row = left_row (bucket_of b) who k body size t

  retry_on_left : IsRetry (bucket_of (step b g)).rows k body size made_row.row
  retry_on_left = subst⁻¹ (λ (x : Bucket). IsRetry x.rows k body size made_row.row) bucket_is made_row.retry

  abbrev text : List ℕ
  text = answer_text (made (numbered made_row.row.number))

  line_is : line_in (outcome b g).answer ≡ text
  line_is = ap (λ (o : Outcome). line_in o.answer) does ∙ rw (version_text_lem made_row.row.number _ made_row.answered) (version_back (numbered made_row.row.number) _)

  -- The same file, accepted again.
  module _ (again : Call) (q' : Request) (t' : Terms) (h' : heard again ≡ says q') (v' : q'.verb ≡ Put k body size t') (z' : (outcome (step b g) again).number ≡ 0) where
    answered_again : outcome (step b g) again ≡ answered_by (line_in (outcome b g).answer) (at_time (step b g) (now_of (bucket_of (step b g)) q'.context).stamp) again.answer
    answered_again =
        (retry_adds_none (step b g) again q' k body size t' made_row.row h' v' retry_on_left).does z'
        ∙ ap (λ (l : List ℕ). answered_by l (at_time (step b g) (now_of (bucket_of (step b g)) q'.context).stamp) again.answer) (sym line_is)

  -- The same line is accepted, and not even the time moves.
  module _ (again : Call) (h' : heard again ≡ says (asked (with_room (length again.answer) who) (Put k body size t))) (l : least_room ≤ length again.answer) where
    again_0 : refusal_of (step b g) again ≡ 0
    again_0 =
        model_refusal (step b g) again (outcome_whole b g is_whole)
        ∙ rw (bucket_is, size_is, h') (again_accepted (bucket_of b) who k body size t (capacity b.keys) (length again.answer) (model_accepts b g q is_whole h refusal_0) (le-ltb _ _ l))

    time_stays : (now_of (bucket_of (step b g)) who).stamp ≡ (step b g).settings.time
    time_stays = ap (λ (o : Outcome). max o.bucket.settings.time who.clock) does ∙ omega arith ∙ sym (ap (λ (o : Outcome). o.bucket.settings.time) does)

    put_again : outcome (step b g) again ≡ answered_by (line_in (outcome b g).answer) (step b g) again.answer
    put_again =
        answered_again again _ t h' refl (outcome_number (step b g) again ∙ again_0)
        ∙ ap (λ (n : ℕ). answered_by (line_in (outcome b g).answer) (at_time (step b g) n) again.answer) time_stays

-- An accepted PUT line, read.
record PutRead (b : Lent) (g : Call) : Type 0 where
  accepted_0 : (outcome b g).number ≡ 0
  read : Read g
  asks : AsksPut read.bytes read.said.verb

put_read : (b : Lent) (g : Call) → (outcome b g).number ≡ 0 → same (sent_field g.sent 2) (bytes "PUT") ≡ true → PutRead b g
put_read b g z e =
    let r = accepted_read b g z in
    record { accepted_0 = z; read = r; asks = asks_put r.bytes r.said (read_same r 2 (bytes "PUT") e) r.reads }

first_read : (b : Lent) (g : Call) → is_put (exchange b g) ≡ true → PutRead b g
first_read b g e = put_read b g (eqb-true _ 0 (and_l _ _ e)) (and_r (eqb (outcome b g).number 0) _ e)

pub sent_twice : SentTwice
sent_twice b g again e s l =
    let p = first_read b g e in
    let r = p.read in
    let a = p.asks in
    put_again b g (grammar.asked (length g.answer) r.said).context (field_of r.bytes 3) a.body a.size a.terms p.accepted_0 (r.hears ∙ rw a.verb_is) again
    (ap (heard_of (length again.answer)) (s ∙ r.sent_is) ∙ rw (r.reads, a.verb_is))
    l

-- ## The same file

-- The same fields are the same key, body number and length.
module _ (s u : List ℕ) (v w : Verb) (a : AsksPut s v) (c : AsksPut u w) where
  same_put : field_of u 3 ≡ field_of s 3 → field_of u 4 ≡ field_of s 4 → field_of u 5 ≡ field_of s 5 → w ≡ Put (field_of s 3) a.body a.size c.terms
  same_put e3 e4 e5 =
      let eb : Some c.body ≡ Some a.body = sym c.body_is ∙ rw e4 a.body_is in
      let es : Some c.size ≡ Some a.size = sym c.size_is ∙ rw e5 a.size_is in
      let b : c.body ≡ a.body = cc in
      let z : c.size ≡ a.size = cc in
      c.verb_is ∙ rw (e3, b, z)

pub sent_later : SentLater
sent_later b g again e f z =
    let p = first_read b g e in
    let r = p.read in
    let a = p.asks in
    let word : same (sent_field again.sent 2) (bytes "PUT") ≡ true = and_l _ _ f in
    let p' = put_read (step b g) again z word in
    let r' = p'.read in
    let fields = and_r (same (sent_field again.sent 2) (bytes "PUT")) _ f in
    let rest = and_r (same (sent_field again.sent 3) (sent_field g.sent 3)) _ fields in
    let e3 = read_same r' 3 (sent_field g.sent 3) (and_l _ _ fields) ∙ read_field r 3 in
    let e4 = read_same r' 4 (sent_field g.sent 4) (and_l _ _ rest) ∙ read_field r 4 in
    let e5 = read_same r' 5 (sent_field g.sent 5) (and_r (same (sent_field again.sent 4) (sent_field g.sent 4)) _ rest) ∙ read_field r 5 in
    let q' = grammar.asked (length again.answer) r'.said in
    let does = answered_again b g (grammar.asked (length g.answer) r.said).context (field_of r.bytes 3) a.body a.size a.terms p.accepted_0 (r.hears ∙ rw a.verb_is) again q' p'.asks.terms r'.hears
    (same_put r.bytes r'.bytes r.said.verb r'.said.verb a p'.asks e3 e4 e5) z in
    does ∙ sym (ap (λ (o : Outcome). answered_by (line_in (outcome b g).answer) (at_time (step b g) o.bucket.settings.time) again.answer) does)

-- ## Over the C entry

-- The bytes of settings with another time.
time_bytes : (s : Settings) (t : ℕ) → take 8 (settings_bytes (settings_at s t)) ++ drop 8 (settings_bytes s) ≡ settings_bytes (settings_at s t)
unfolding settings_bytes spelled
time_bytes s t = refl

module _ (b : Bytes) (g again : Call) (e : is_put (byte_exchange b g) ≡ true) where
  abbrev c : ℕ
  c = capacity b.keys

  number_0 : (hub_served b g).number ≡ 0
  number_0 = eqb-true _ 0 (and_l _ _ e)

  sized : Sized c b
  sized = accepted_sized b g number_0

  first_bytes : hub_served b g ≡ outcome_in_bytes (outcome (lent_of b) g)
  first_bytes = accepted_bytes c b g sized (sym (same_number c b g sized) ∙ number_0)

  first_put : is_put (exchange (lent_of b) g) ≡ true
  first_put = served_spelled b g (bytes "PUT") e

  -- What the second comes to on what the bytes spell, it comes to on the bytes.
  second_bytes : (o : Outcome) → o.number ≡ 0 → outcome (step (lent_of b) g) again ≡ o → hub_served (byte_step b g) again ≡ outcome_in_bytes o
  second_bytes o n f =
      let spelled_is : outcome (lent_of (byte_step b g)) again ≡ o = ap (λ (x : Lent). outcome x again) (spelled_after c b g sized) ∙ f in
      accepted_bytes c (byte_step b g) again (sized_after c b g sized) (ap (λ (x : Outcome). x.number) spelled_is ∙ n) ∙ ap outcome_in_bytes spelled_is

pub sent_twice_bytes : SentTwiceBytes
sent_twice_bytes b g again e s l =
    second_bytes b g again e _ refl (sent_twice (lent_of b) g again (first_put b g again e) s l)
    ∙ sym (ap (λ (o : ByteOutcome). byte_outcome 0 o.bytes (written (line_in o.answer) again.answer)) (first_bytes b g again e))

pub sent_later_bytes : SentLaterBytes
sent_later_bytes b g again e f n =
    let x = lent_of b in
    let z = sized b g again e in
    let n' = ap (λ (l : Lent). (outcome l again).number) (sym (spelled_after _ b g z)) ∙ sym (same_number _ (byte_step b g) again (sized_after _ b g z)) ∙ n in
    let served = second_bytes b g again e _ refl (sent_later x g again (first_put b g again e) f n') in
    let left = step x g in
    served
    ∙ sym (ap₂ (λ (o p : ByteOutcome). byte_outcome 0 (with_time_of p.bytes.settings o.bytes) (written (line_in o.answer) again.answer)) (first_bytes b g again e) served
    ∙ ap (λ (s : List ℕ). byte_outcome 0 (as_bytes s (numbers_bytes left.numbers) left.keys) (written (line_in (outcome x g).answer) again.answer)) (time_bytes left.settings (step left again).settings.time))
