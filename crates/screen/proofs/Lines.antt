-- A line by the length of the answer buffer, by what it reads as, and by its own fields.
use Rattle.std.specs.Prelude.{Result, Ok, Err, ok_or, if◌then◌else◌}
use Rattle.model.specs.declared.Refusal.{Refusal}
use Rattle.model.specs.declared.Refusal.TheVariants.{ShortAnswer, Unreadable, HalfGiven, NoRight, ShortForPage, PastDate}
use Rattle.model.specs.Refusal.{code_of, ◌>>=◌}
use Rattle.model.specs.Refusals.{first_of, field_checks}
use Rattle.screen.specs.declared.Passed.{Passed}
use Prim.Native.Nat.{ℕ, ◌≤◌, ◌<◌}
use mathlib.Core.Path.{◌≡◌, refl, ap}
use mathlib.Core.Bool.{Bool, true, false}
use mathlib.Core.List.{List}
use Rattle.std.specs.Prelude.{Option, Some, None}
use native.Mathlib.Omega.{arith}
use lib.Dec.{ltb}
use borrow.Author.Tests.{lt-ltb, le-ltb, ltb-true, ltb-false}
use Rattle.buffers.specs.Choices.{pick}
use Rattle.calendar.specs.declared.Now.{Now}
use Rattle.model.specs.Settings.{Config}
use Rattle.model.specs.Requests as model
use Rattle.model.specs.Refusals.{half_given, lacks_right, short_for_page, past_date}
use Rattle.model.specs.Time.{now_at}
use Rattle.fields.specs.Meaning.{rights_means}
use Rattle.request.specs.declared.Verb.{Verb}
use Rattle.request.specs.declared.Request.{Request}
use Rattle.request.specs.Grammar.{request_in, read_line}
use Rattle.request.specs.Meaning.{verb_means, VerbInside}
use Rattle.request.proofs.Ranges.{request_stands}
use Rattle.screen.specs.Screen.{screened, request_refusal, screened_line}

-- ## The ways through the code

module _ (s : Config) (time : ℕ) (line : List ℕ) (room : ℕ) where
  pub line_2 : room < 256 → Err ShortAnswer ≡ screened_line s time line room
  unfolding screened_line
  line_2 l = simp (lt-ltb room 256 l)

  pub line_stops : 256 ≤ room → (q : Request) → request_in line ≡ Some q → (k : Refusal) → request_refusal s time line room q ≡ Err k → Err k ≡ screened_line s time line room
  unfolding screened_line
  line_stops l q f k z = simp (le-ltb _ _ l, f, z)

-- ## For callers

-- What a line comes to, and why.
pub data Comes (s : Config) (time : ℕ) (line : List ℕ) (room : ℕ) : Result Passed Refusal → Type 0 where
  short : room < 256 → Comes s time line room (Err ShortAnswer)
  unread : 256 ≤ room → read_line line ≡ None → Comes s time line room (Err Unreadable)
  barred : 256 ≤ room → (q : Request) → request_in line ≡ Some q → (k : Refusal) → request_refusal s time line room q ≡ Err k → Comes s time line room (Err k)
  passed : 256 ≤ room → (q : Request) → request_in line ≡ Some q → request_refusal s time line room q ≡ Ok tt → Comes s time line room (Ok (record { verb = q.verb; when = now_at time q.clock }))

pub comes : (s : Config) (time : ℕ) (line : List ℕ) (room : ℕ) → Comes s time line room (screened_line s time line room)
unfolding screened_line read_line
comes s time line room = go (ltb room 256) refl (request_in line) refl
  where
    read : (q : Request) (z : Result (Unit {0}) Refusal) → 256 ≤ room → request_in line ≡ Some q → request_refusal s time line room q ≡ z
        → Comes s time line room (z >>= (λ _. Ok (record { verb = q.verb; when = now_at time q.clock })))
    read q (Ok x) l r z = passed l q r z
    read q (Err k) l r z = barred l q r k z

    go : (t : Bool) → ltb room 256 ≡ t → (o : Option Request) → request_in line ≡ o
        → Comes s time line room (if t then Err ShortAnswer else (ok_or o Unreadable >>= (λ q. request_refusal s time line room q >>= (λ _. Ok (record { verb = q.verb; when = now_at time q.clock })))))
    go true t o r = short (ltb-true room 256 t)
    go false t None r = unread (ltb-false room 256 t) (rw r)
    go false t (Some q) r = read q (request_refusal s time line room q) (ltb-false room 256 t) r refl

-- The refusal of a line's own fields is the first of the list of conditions.
pub screened_first : (s : Config) (who : model.Rights) (room now : ℕ) (v : model.Verb) → code_of (screened s who room now v) ≡ first_of (field_checks s who room now v)
unfolding screened
screened_first s who room now v = go (half_given v) (lacks_right s who v) (short_for_page room v) (past_date now v)
  where
    go : (h l n p : Bool) → code_of (if h then Err HalfGiven else (if l then Err NoRight else (if n then Err ShortForPage else (if p then Err PastDate else Ok (tt {0}))))) ≡ pick h 4 (pick l 5 (pick n 13 (pick p 6 0)))
    go true l n p = refl
    go false true n p = refl
    go false false true p = refl
    go false false false true = refl
    go false false false false = refl

-- The line says this verb, this is its now, and none of 2 to 6 and 13 holds.
pub record Passes (s : Config) (time : ℕ) (line : List ℕ) (room : ℕ) (v : Verb) (when : Now) : Type 0 where
  pub room_fits : 256 ≤ room
  pub clock : ℕ
  pub who : model.Rights
  pub says : read_line line ≡ Some (record { clock = clock; who = who; verb = verb_means line v })
  pub inside : VerbInside line v
  pub now_is : when ≡ now_at time clock
  pub passes : screened s who room when.stamp (verb_means line v) ≡ Ok tt

third_fails : (h l n : Bool) (rest : Result (Unit {0}) Refusal) → (if h then Err HalfGiven else (if l then Err NoRight else (if n then Err ShortForPage else rest))) ≡ Ok tt → n ≡ false
third_fails true l n rest e = let z : ◌≡◌ {A = ℕ} 0 1 = cc in absurd (omega arith)
third_fails false true n rest e = let z : ◌≡◌ {A = ℕ} 0 1 = cc in absurd (omega arith)
third_fails false false true rest e = let z : ◌≡◌ {A = ℕ} 0 1 = cc in absurd (omega arith)
third_fails false false false rest e = refl

-- A line that passes meets no 13.
pub passes_page : {s : Config} {time : ℕ} {line : List ℕ} {room : ℕ} {v : Verb} {when : Now} → Passes s time line room v when → short_for_page room (verb_means line v) ≡ false
unfolding screened
passes_page {s} {time} {line} {room} {v} {when} p =
    let w = verb_means line v in
    third_fails (half_given w) (lacks_right s p.who w) (short_for_page room w) (if past_date when.stamp w then Err PastDate else Ok tt) p.passes

module _ (s : Config) (time : ℕ) (line : List ℕ) (room : ℕ) (v : Verb) (when : Now) where
  abbrev to_pass : Result Passed Refusal
  to_pass = Ok (record { verb = v; when = when })

  clash : (n : Refusal) → to_pass ≡ Err n → ⊥
  clash n e = let z : ◌≡◌ {A = ℕ} 0 1 = cc in omega arith

  pub line_passed : Ok (record { verb = v; when = when }) ≡ screened_line s time line room → Passes s time line room v when
  unfolding read_line
  line_passed = go (screened_line s time line room) (comes s time line room)
    where
      go : (r : Result Passed Refusal) → Comes s time line room r → to_pass ≡ r → Passes s time line room v when
      go r (short l) e = absurd (clash ShortAnswer e)
      go r (unread l f) e = absurd (clash Unreadable e)
      go r (barred l q f k z) e = absurd (clash k e)
      go r (passed l q f z) e =
          let er : ◌≡◌ {A = Passed} (record { verb = v; when = when }) (record { verb = q.verb; when = now_at time q.clock }) = cc in
          let ev : v ≡ q.verb = ap (λ (x : Passed). x.verb) er in
          let en : when ≡ now_at time q.clock = ap (λ (x : Passed). x.when) er in
          record {
            room_fits = l;
            clock = q.clock;
            who = rights_means q.rights;
            says = rw (f, ev);
            inside = rw ev (request_stands line q f).inside;
            now_is = en;
            passes = rw (ev, en) z;
          }
