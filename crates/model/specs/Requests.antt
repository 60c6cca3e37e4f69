-- 01, "Request lines": what a line asks for, once it is read. A field with `-` is `none`.
use Rattle.std.specs.Prelude.{ℕ, Bool, true, false, not, ◌&&◌, ◌||◌, List, eqb, leb, ltb, length}
use Rattle.std.specs.Prelude.{Option, Some, None}
use Rattle.text.specs.Keys.{is_key, is_prefix}
use Rattle.calendar.specs.Calendar.{latest}
use Rattle.model.specs.Rows.{is_mode, largest_size, bodies}
use Rattle.model.specs.Settings.{Rule, is_period, is_days, spent_number}

-- The letters of rights: r w d t h b c.
pub data Letter : Type 0 where
  reading writing deleting retaining holding bypassing configuring : Letter

-- Some of the letters.
pub record Rights : Type 0 where
  pub r : Bool
  pub w : Bool
  pub d : Bool
  pub t : Bool
  pub h : Bool
  pub b : Bool
  pub c : Bool

abbrev pub has : Rights → Letter → Bool
has a reading = a.r
has a writing = a.w
has a deleting = a.d
has a retaining = a.t
has a holding = a.h
has a bypassing = a.b
has a configuring = a.c

-- How lines and answers name a version.
pub data Version : Type 0 where
  numbered : ℕ → Version

-- A key and a version field, where `-` is the key's current version.
pub record Name : Type 0 where
  pub key : List ℕ
  pub version : Option Version

abbrev pub name : List ℕ → Option Version → Name
name k v = record { key = k; version = v }

-- The fields mode and date.
pub record Retention : Type 0 where
  pub mode : Option ℕ
  pub date : Option ℕ

abbrev pub no_retention : Retention
no_retention = record { mode = None; date = None }

-- The lock fields of a PUT or COPY; a hold is ON (true) or OFF (false).
pub record Terms : Type 0 where
  pub retention : Retention
  pub hold : Option Bool

-- A count, and its unit.
pub record Period : Type 0 where
  pub count : ℕ
  pub unit : ℕ

-- The verbs that set what the config holds.
pub data Setting : Type 0 where
  DefaultRetention : (mode : Option ℕ) (period : Option Period) → Setting
  LifecycleRule : (place : ℕ) (rule : Rule) → Setting

-- A page of versions: the prefix of the keys, the key and the version after which it starts, and how many rows at most.
-- Version 0 stands before the key's first row, and with the empty key before all rows.
pub record Page : Type 0 where
  pub prefix : List ℕ
  pub key : List ℕ
  pub version : ℕ
  pub count : ℕ

abbrev pub page : List ℕ → List ℕ → ℕ → ℕ → Page
page prefix k v count = record { prefix = prefix; key = k; version = v; count = count }

-- The most rows that a page may have.
abbrev pub largest_count : ℕ
largest_count = 1000

-- The verbs that only ask.
pub data Query : Type 0 where
  Get : Name → Query
  ListVersions : Page → Query
  Report : (prefix : List ℕ) → Query
  -- for a version's number once more: no line says it, but a PUT that is a retry means it
  Repeat : Version → Query

-- A verb with its fields. DELETE is two: with `-` it adds a marker, with a number it removes that version.
pub data Verb : Type 0 where
  Put : (key : List ℕ) (body size : ℕ) (terms : Terms) → Verb
  Copy : (source : Name) (target : List ℕ) (terms : Terms) → Verb
  Retain : (of : Name) (retention : Retention) (bypass : Bool) → Verb
  Hold : (of : Name) (on : Bool) → Verb
  AddMarker : (key : List ℕ) (bypass : Bool) → Verb
  DeleteVersion : (key : List ℕ) (version : Version) (bypass : Bool) → Verb
  Set : Setting → Verb
  Sweep : Verb
  Ask : Query → Verb

-- What comes with any verb: the answer buffer's length, the clock's reading, the rights.
pub record Context : Type 0 where
  pub room : ℕ
  pub clock : ℕ
  pub who : Rights

pub record Request : Type 0 where
  pub context : Context
  pub verb : Verb

-- What is heard of a line: it can't be read, or it says a request; its answer buffer has a length in either case.
pub data Heard : Type 0 where
  unreadable : (room : ℕ) → Heard
  says : Request → Heard

abbrev pub room_of : Heard → ℕ
room_of (unreadable room) = room
room_of (says q) = q.context.room

-- ## The fields that several verbs have

-- The field is given, and is this.
abbrev pub is_the : ℕ → Option ℕ → Bool
is_the n None = false
is_the n (Some m) = eqb m n

-- The version field; DELETE with `-` names no version.
abbrev pub name_of : Verb → Option Name
name_of (Put k body size t) = None
name_of (Copy n k t) = Some n
name_of (Retain n r y) = Some n
name_of (Hold n on) = Some n
name_of (AddMarker k y) = None
name_of (DeleteVersion k v y) = Some (name k (Some v))
name_of (Set s) = None
name_of Sweep = None
name_of (Ask (Get n)) = Some n
name_of (Ask (ListVersions p)) = None
name_of (Ask (Report prefix)) = None
name_of (Ask (Repeat v)) = None

-- The page that LIST asks for.
abbrev pub page_of : Verb → Option Page
page_of (Put k body size t) = None
page_of (Copy n k t) = None
page_of (Retain n r y) = None
page_of (Hold n on) = None
page_of (AddMarker k y) = None
page_of (DeleteVersion k v y) = None
page_of (Set s) = None
page_of Sweep = None
page_of (Ask (Get n)) = None
page_of (Ask (ListVersions p)) = Some p
page_of (Ask (Report prefix)) = None
page_of (Ask (Repeat v)) = None

-- The lock fields of a PUT or COPY.
abbrev pub terms_of : Verb → Option Terms
terms_of (Put k body size t) = Some t
terms_of (Copy n k t) = Some t
terms_of (Retain n r y) = None
terms_of (Hold n on) = None
terms_of (AddMarker k y) = None
terms_of (DeleteVersion k v y) = None
terms_of (Set s) = None
terms_of Sweep = None
terms_of (Ask a) = None

-- Mode and date, both missing where the verb has no such fields.
abbrev pub retention_of : Verb → Retention
retention_of (Put k body size t) = t.retention
retention_of (Copy n k t) = t.retention
retention_of (Retain n r y) = r
retention_of (Hold n on) = no_retention
retention_of (AddMarker k y) = no_retention
retention_of (DeleteVersion k v y) = no_retention
retention_of (Set s) = no_retention
retention_of Sweep = no_retention
retention_of (Ask a) = no_retention

-- What DEFAULT or RULE sets.
abbrev pub setting_of : Verb → Option Setting
setting_of (Put k body size t) = None
setting_of (Copy n k t) = None
setting_of (Retain n r y) = None
setting_of (Hold n on) = None
setting_of (AddMarker k y) = None
setting_of (DeleteVersion k v y) = None
setting_of (Set s) = Some s
setting_of Sweep = None
setting_of (Ask a) = None

-- Bypass, no where the verb has no such field.
abbrev pub bypass_of : Verb → Bool
bypass_of (Put k body size t) = false
bypass_of (Copy n k t) = false
bypass_of (Retain n r y) = y
bypass_of (Hold n on) = false
bypass_of (AddMarker k y) = y
bypass_of (DeleteVersion k v y) = y
bypass_of (Set s) = false
bypass_of Sweep = false
bypass_of (Ask a) = false

-- ## Ranges

abbrev pub is_version : Option Version → Bool
is_version None = true
is_version (Some (numbered n)) = leb 1 n && ltb n spent_number

abbrev pub is_name : Name → Bool
is_name n = is_key n.key && is_version n.version

abbrev pub is_mode_field : Option ℕ → Bool
is_mode_field None = true
is_mode_field (Some m) = is_mode m

abbrev pub is_date_field : Option ℕ → Bool
is_date_field None = true
is_date_field (Some d) = leb d latest

abbrev pub is_retention : Retention → Bool
is_retention r = is_mode_field r.mode && is_date_field r.date

abbrev pub is_period_field : Option Period → Bool
is_period_field None = true
is_period_field (Some p) = is_period p.count p.unit

abbrev pub is_setting : Setting → Bool
is_setting (DefaultRetention m p) = is_mode_field m && is_period_field p
is_setting (LifecycleRule i u) = ltb i 8 && (is_prefix u.prefix && (is_days u.current_days && is_days u.noncurrent_days))

-- A place in the table: a key and a number from 0 on; the empty key has version 0 only.
abbrev pub is_place : List ℕ → ℕ → Bool
is_place k v = is_prefix k && (ltb v spent_number && (not (eqb (length k) 0) || eqb v 0))

abbrev pub is_page : Page → Bool
is_page p = is_prefix p.prefix && (is_place p.key p.version && (leb 1 p.count && leb p.count largest_count))

-- Every field of the verb is within its range.
unfoldable pub in_range : Verb → Bool
in_range (Put k body size t) = is_key k && (ltb body bodies && (leb size largest_size && is_retention t.retention))
in_range (Copy n k t) = is_name n && (is_key k && is_retention t.retention)
in_range (Retain n r y) = is_name n && is_retention r
in_range (Hold n on) = is_name n
in_range (AddMarker k y) = is_key k
in_range (DeleteVersion k v y) = is_name (name k (Some v))
in_range (Set s) = is_setting s
in_range Sweep = true
in_range (Ask (Get n)) = is_name n
in_range (Ask (ListVersions p)) = is_page p
in_range (Ask (Report prefix)) = is_prefix prefix
in_range (Ask (Repeat v)) = true
