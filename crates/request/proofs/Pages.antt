-- What a readable line with the word LIST or REPORT asks for, by its fields.
use Prim.Native.Nat.{ℕ}
use mathlib.Core.Path.{◌≡◌}
use mathlib.Core.List.{List}
use Rattle.std.specs.Prelude.{Some, None, ◌==◌, if◌then◌else◌}
use Rattle.buffers.specs.Choices.{◌>>=◌}
use Rattle.buffers.specs.Texts.{bytes}
use Rattle.text.specs.declared.Place.{Place}
use Rattle.text.specs.Numbers.{number_of, positive_of}
use Rattle.text.specs.Fields.{field_of}
use Rattle.model.specs.Settings.{largest_number}
use Rattle.model.specs.Requests as model
use Rattle.model.specs.Requests.{page, largest_count}
use Rattle.fields.specs.Fields.{read_prefix}
use Rattle.request.specs.declared.Verb.{Verb}
use Rattle.request.specs.declared.Verb.TheVariants.{Ask}
use Rattle.request.specs.declared.Query.TheVariants.{ListVersions, Report}
use Rattle.request.specs.Meaning.{verb_means}
use Rattle.request.specs.Grammar.{list_of, report_of, query_by_word, other_by_word, verb_by_word, Said, read_line}
use Rattle.request.proofs.Ranges.{Passes, ways, prefix_field}
use Rattle.request.proofs.Words.{line_asks}

-- A whole number from 1 on is a whole number.
positive_number : (k : ℕ) (s : List ℕ) (n : ℕ) → positive_of k s ≡ Some n → number_of k s ≡ Some n
unfolding positive_of
positive_number k s n = read.holds n
  where
    nonzero : (m : ℕ) → number_of k s ≡ Some m → Passes ℕ (λ n. number_of k s ≡ Some n) (if m == 0 then None else Some m)
    nonzero m e = search (ways, e) depth 9

    read : Passes ℕ (λ n. number_of k s ≡ Some n) (number_of k s >>= (λ m. if m == 0 then None else Some m))
    read = search (ways, nonzero) depth 9

module _ (s : List ℕ) where
  -- The verb is LIST of the prefix and the key in fields 3 and 4, and of the numbers in fields 5 and 6.
  pub record AsksPage (v : model.Verb) : Type 0 where
    pub version : ℕ
    pub count : ℕ
    pub verb_is : v ≡ model.Ask (model.ListVersions (page (field_of s 3) (field_of s 4) version count))
    pub version_is : number_of largest_number (field_of s 5) ≡ Some version
    pub count_is : number_of largest_count (field_of s 6) ≡ Some count

  list_asks : Passes Verb (λ v. AsksPage (verb_means s v)) (list_of s)
  unfolding list_of
  list_asks = search (ways, asks) depth 16
    where
      asks : (p k : Place) (v n : ℕ) → read_prefix s 3 ≡ Some p → read_prefix s 4 ≡ Some k → number_of largest_number (field_of s 5) ≡ Some v → positive_of largest_count (field_of s 6) ≡ Some n
          → AsksPage (verb_means s (Ask (ListVersions (record { prefix = p; key = k; version = v; count = n }))))
      asks p k v n ep ek ev en = record { version = v; count = n; verb_is = rw (prefix_field s 3 p ep, prefix_field s 4 k ek); version_is = ev; count_is = positive_number largest_count (field_of s 6) n en }

  -- The word LIST leads to its reader.
  list_word : field_of s 2 ≡ bytes "LIST" → verb_by_word (field_of s 2) s ≡ list_of s
  unfolding verb_by_word query_by_word other_by_word
  list_word e = rw e

  -- A readable line with the word LIST asks for a page.
  pub asks_page : (q : Said) → field_of s 2 ≡ bytes "LIST" → read_line s ≡ Some q → AsksPage q.verb
  asks_page q e = line_asks s AsksPage (list_of s) (list_word e) list_asks q

  -- One with the word REPORT asks for the totals of the prefix in field 3.
  pub asks_report : (q : Said) → field_of s 2 ≡ bytes "REPORT" → read_line s ≡ Some q → q.verb ≡ model.Ask (model.Report (field_of s 3))
  unfolding verb_by_word query_by_word other_by_word report_of
  asks_report q e = line_asks s (λ v. v ≡ model.Ask (model.Report (field_of s 3))) (report_of s) (rw e) (search (ways, asks) depth 16) q
    where
      asks : (p : Place) → read_prefix s 3 ≡ Some p → verb_means s (Ask (Report p)) ≡ model.Ask (model.Report (field_of s 3))
      asks p ep = rw (prefix_field s 3 p ep)
