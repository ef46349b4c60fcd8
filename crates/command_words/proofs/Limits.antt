-- The numbers of a command are within their limits.
use Rattle.std.proofs.Common.{◌≡◌, sym, subst, arith, ℕ, refl, Bool, true, false, cond, List, [], ◌∷◌, ◌++◌, Option, Some, None}
use Rattle.std.specs.Prelude.{◌^◌, ◌&&◌, nat_le, nat_lt, codes, option_map, option_and_then}
use Rattle.std.specs.List.{list_all}
use Rattle.std.specs.Str.{bytes_eq, is_utf8}
use Rattle.std.proofs.lemmas.Bool.Decides.{nat_tests}
use Rattle.text_parts.specs.Numbers.{number_of}
use Rattle.cert_sched.specs.declared.script.ScriptWord.{ScriptWord}
use Rattle.command_words.specs.declared.command.Command.{Command}
use Rattle.command_words.specs.declared.command.Command.TheVariants as commands
use Rattle.command_words.specs.declared.options.Form.TheVariants as form
use Rattle.command_words.specs.Options.{Text, Given, given_of}
use Rattle.command_words.specs.Script.{script_of}
use Rattle.command_words.specs.Command.{before_end, behind_end, pick_of, alone, sim_by, run_by, size_of, load_with, load_by, command_by, command_of_texts, command_of}

-- the pick has 31 bits, and the size of a workload is 1 to 1000
abbrev pub IsWithinLimits : Option Command → Type 0
IsWithinLimits (Some (commands.Sim pick log script)) = nat_lt pick (2 ^ 31) ≡ true
IsWithinLimits (Some (commands.Load size text script)) = nat_le 1 size && nat_le size 1000 ≡ true
IsWithinLimits _ = Unit {0}

-- a choice between two
by_choice : (b : Bool) (x y : Option Command) → IsWithinLimits x → IsWithinLimits y → IsWithinLimits (cond b x y)
by_choice true x y p q = p
by_choice false x y p q = q

of_alone : (command : Command) (words : List Text) → IsWithinLimits (Some command) → IsWithinLimits (alone command words)
of_alone command [] p = p
of_alone command (word ∷ words) p = tt

-- a number below a limit
below_limit : (o : Option ℕ) (pick : ℕ) → option_and_then (λ n. cond (nat_lt n (2 ^ 31)) (Some n) None) o ≡ Some pick → nat_lt pick (2 ^ 31) ≡ true
below_limit None pick e = cc
below_limit (Some n) pick e = by_test (nat_lt n (2 ^ 31)) refl e
  where
    by_test : (b : Bool) → b ≡ nat_lt n (2 ^ 31) → cond b (Some n) None ≡ Some pick → nat_lt pick (2 ^ 31) ≡ true
    by_test true t f = let same : n ≡ pick = cc in rw (← same, ← t) refl
    by_test false t f = cc

given_pick : (text : Option Text) (pick : ℕ) → pick_of text ≡ Some pick → nat_lt pick (2 ^ 31) ≡ true
given_pick None pick e = let zero_is : 0 ≡ pick = cc in rw (← zero_is) refl
given_pick (Some text) pick e = below_limit (number_of text) pick e

with_script : (pick : ℕ) (log : Bool) (script : Option (List ScriptWord)) → nat_lt pick (2 ^ 31) ≡ true → IsWithinLimits (option_map (λ s. commands.Sim pick log s) script)
with_script pick log None p = tt
with_script pick log (Some s) p = p

with_given : (behind : List Text) (given : Option Given) → IsWithinLimits (option_and_then (sim_by behind) given)
with_given behind None = tt
with_given behind (Some g) = by_pick (pick_of g.pick) refl
  where
    by_pick : (found : Option ℕ) → found ≡ pick_of g.pick → IsWithinLimits (option_and_then (λ pick. option_map (λ script. commands.Sim pick g.flag script) (script_of (g.plain ++ behind))) found)
    by_pick None e = tt
    by_pick (Some pick) e = with_script pick g.flag (script_of (g.plain ++ behind)) (given_pick g.pick pick (cc))

of_run : (log : Bool) (script : Option (List ScriptWord)) → IsWithinLimits (option_map (λ s. commands.Run log s) script)
of_run log None = tt
of_run log (Some s) = tt

run_given : (behind : List Text) (given : Option Given) → IsWithinLimits (option_and_then (run_by behind) given)
run_given behind None = tt
run_given behind (Some g) = of_run g.flag (script_of (g.plain ++ behind))

within : (n : ℕ) → nat_le 1 n ≡ true → nat_lt n 1001 ≡ true → nat_le 1 n && nat_le n 1000 ≡ true
within n low high = let few : nat_le n 1000 ≡ true = grind (arith, nat_tests, high) in rw (low, few) refl

given_size : (number : Option ℕ) (size : ℕ) → option_and_then (λ n. cond (nat_le 1 n) (Some n) None) (option_and_then (λ n. cond (nat_lt n 1001) (Some n) None) number) ≡ Some size
    → nat_le 1 size && nat_le size 1000 ≡ true
given_size None size e = cc
given_size (Some n) size e = by_high (nat_lt n 1001) refl e
  where
    by_low : (b : Bool) → b ≡ nat_le 1 n → nat_lt n 1001 ≡ true → cond b (Some n) None ≡ Some size → nat_le 1 size && nat_le size 1000 ≡ true
    by_low true low high f = let same : n ≡ size = cc in subst (λ k. nat_le 1 k && nat_le k 1000 ≡ true) same (within n (sym low) high)
    by_low false low high f = cc

    by_high : (b : Bool) → b ≡ nat_lt n 1001 → option_and_then (λ k. cond (nat_le 1 k) (Some k) None) (cond b (Some n) None) ≡ Some size → nat_le 1 size && nat_le size 1000 ≡ true
    by_high true high f = by_low (nat_le 1 n) refl (sym high) f
    by_high false high f = cc

of_load : (n : ℕ) (flag : Bool) (script : Option (List ScriptWord)) → nat_le 1 n && nat_le n 1000 ≡ true → IsWithinLimits (option_map (λ s. commands.Load n flag s) script)
of_load n flag None h = tt
of_load n flag (Some s) h = h

of_size : (size : Option ℕ) (flag : Bool) (script : Option (List ScriptWord)) → ((n : ℕ) → size ≡ Some n → nat_le 1 n && nat_le n 1000 ≡ true)
    → IsWithinLimits (option_and_then (λ n. option_map (λ s. commands.Load n flag s) script) size)
of_size None flag script h = tt
of_size (Some n) flag script h = of_load n flag script (h n refl)

of_plain : (flag : Bool) (behind plain : List Text) → IsWithinLimits (load_with flag behind plain)
of_plain flag behind [] = tt
of_plain flag behind (size ∷ plain) = of_size (size_of size) flag (script_of (plain ++ behind)) (λ n e. given_size (number_of size) n e)

load_given : (behind : List Text) (given : Option Given) → IsWithinLimits (option_and_then (load_by behind) given)
load_given behind None = tt
load_given behind (Some g) = of_plain g.flag behind g.plain

of_words : (first : Text) (words : List Text) → IsWithinLimits (command_by first words)
of_words first words =
    by_choice (bytes_eq first (codes "plain")) _ _ (of_alone commands.Plain words tt)
    (by_choice (bytes_eq first (codes "check")) _ _ (of_alone commands.Check words tt)
    (by_choice (bytes_eq first (codes "asm")) _ _ (of_alone commands.Asm words tt)
    (by_choice (bytes_eq first (codes "sim")) _ _ (with_given (behind_end words) (given_of form.Sim (before_end words)))
    (by_choice (bytes_eq first (codes "run")) _ _ (run_given (behind_end words) (given_of form.Run (before_end words)))
    (by_choice (bytes_eq first (codes "load")) _ None (load_given (behind_end words) (given_of form.Load (before_end words))) tt)))))

of_texts : (words : List Text) → IsWithinLimits (command_of_texts words)
of_texts [] = tt
of_texts (first ∷ words) = of_words first words

pub within_limits : (words : List Text) → IsWithinLimits (command_of words)
within_limits words = by_choice (list_all is_utf8 words) (command_of_texts words) None (of_texts words) tt
