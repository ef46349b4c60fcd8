-- The process that does what a line says has not ended.
use Rattle.std.proofs.Common.{◌≡◌, ℕ, refl, sym, [], ◌∷◌, true, false, Option, Some, None, is_some, true≢false}
use Rattle.std.specs.Prelude.{option_map}
use Rattle.std.proofs.lemmas.Bool.{and_parts}
use Rattle.t32_base.specs.declared.process.Pid.{Pid}
use Rattle.bus_msg.specs.declared.entry.By.{By}
use Rattle.bus_msg.specs.declared.entry.By.TheVariants.{Cluster, Bus}
use Rattle.bus_msg.specs.declared.entry.What.{What}
use Rattle.bus_msg.specs.declared.entry.What.TheVariants.{Mail, Birth, Exit, Page, Sync, Fetch, PageIs, Crash, Return, Rebackup, Done, Stop}
use Rattle.bus_msg.specs.declared.placed.Placed.{Placed}
use Rattle.bus_msg.specs.Places.{Places, unended_at}
use Rattle.cert_sched.specs.Rules.{home_at, is_by, is_by_home, is_by_right, is_living}
use Rattle.entry_lines.specs.Told.{told_what}
use Rattle.audited_log.specs.Named.{doer}

-- the process with this number has not ended
pub record Does (places : Places) (n : ℕ) : Type 0 where
  pub p : Pid
  pub number : p.0 ≡ n
  pub unended : is_some (unended_at places p) ≡ true

home_there : (by : By) (o : Option Placed) → is_by by (option_map (λ (q : Placed). q.home) o) ≡ true → is_some o ≡ true
home_there Bus o is = absurd (true≢false (sym is))
home_there (Cluster k) None is = absurd (true≢false (sym is))
home_there (Cluster k) (Some q) is = refl

at_home : (places : Places) (by : By) (p : Pid) (n : ℕ) → Some p.0 ≡ Some n → is_by_home places by (Some p) ≡ true → Does places n
at_home places by p n is home = record { p = p; number = cc; unended = home_there by (unended_at places p) (and_parts (is_living places by) (is_by by (home_at places p)) home).1 }

pub does : (places : Places) (by : By) (w : What) (n : ℕ) → doer (told_what w) ≡ Some n → is_by_right places by w ≡ true → Does places n
does places by (Mail at letter) n is right = at_home places by letter.from n is right
does places by (Birth parent at child end) n is right = at_home places by parent n is right
does places by (Exit pid at end) n is right = at_home places by pid n is right
does places by (Page pid at index bytes) n is right = at_home places by pid n is right
does places by (Sync pid small read took) n is right = at_home places by pid n is right
does places by (Fetch pid index) n is right = at_home places by pid n is right
does places by (PageIs pid index bytes) n is right = cc
does places by (Crash k cause) n is right = cc
does places by (Return k) n is right = cc
does places by (Rebackup to true []) n is right = cc
does places by (Rebackup to true (r ∷ rs)) n is right = at_home places by r.pid n is right
does places by (Rebackup to false []) n is right = cc
does places by (Rebackup to false (r ∷ rs)) n is right = at_home places by r.pid n is right
does places by (Done rests) n is right = cc
does places by Stop n is right = cc
