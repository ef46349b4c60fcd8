-- The words of a script, by their texts.
use Rattle.std.specs.Prelude.{ℕ, ◌^◌, ◌==◌, ◌||◌, Bool, nat_le, nat_lt, min, if◌then◌else◌, List, [], ◌∷◌, length, take, drop, codes, Option, Some, None, option_map, option_and_then}
use Rattle.std.specs.List.{list_all}
use Rattle.std.specs.Option.{option_or}
use Rattle.std.specs.Str.{bytes_eq}
use Rattle.text_parts.specs.Lines.{before, from}
use Rattle.text_parts.specs.Numbers.{number_of}
use Rattle.t32_base.specs.declared.process.ClusterNo.{ClusterNo}
use Rattle.cert_sched.specs.declared.script.ScriptWord.{ScriptWord}
use Rattle.cert_sched.specs.declared.script.ScriptWord.TheVariants.{CrashAt, CrashStep, DiskAt, ReturnAt}

-- a number below a limit, of 1 to 10 decimal digits
abbrev pub number_below : ℕ → List ℕ → Option ℕ
number_below limit text = option_and_then (λ n. if nat_lt n limit then Some n else None) (number_of text)

-- the number of a cluster. One above 255 is held as 255: no system has either, and which clusters a system has is asked later
abbrev pub cluster_of : List ℕ → Option ClusterNo
cluster_of text = option_map (λ n. record { 0 = min n 255 }) (number_of text)

-- a place of the log, a step or a call
abbrev pub place_of : List ℕ → Option ℕ
place_of text = number_below (2 ^ 32) text

-- what stands behind these bytes, where the text begins with them
abbrev pub behind : List ℕ → List ℕ → Option (List ℕ)
behind front text = if bytes_eq (take (length front) text) front then Some (drop (length front) text) else None

abbrev pub is_at : ℕ → Bool
is_at b = b == 64

-- what stands behind the first `@`
abbrev pub behind_at : List ℕ → List ℕ
behind_at text = drop 1 (from is_at text)

-- the cluster and the place of a word FRONT K @ UNIT N. Where no `@` stands, nothing stands behind it, and that is no place
abbrev pub cluster_and_place : List ℕ → List ℕ → List ℕ → Option (ClusterNo × ℕ)
cluster_and_place front unit text =
    option_and_then (λ rest. option_and_then (λ k. option_map (λ n. (k, n)) (option_and_then place_of (behind unit (behind_at rest)))) (cluster_of (before is_at rest))) (behind front text)

-- a script word: `crash:K@bus:N`, `crash:K@step:N`, `disk:K@N` or `return:K@bus:N`
abbrev pub script_word : List ℕ → Option ScriptWord
script_word text =
    option_or (option_map (λ p. CrashAt p.0 p.1) (cluster_and_place (codes "crash:") (codes "bus:") text))
    (option_or (option_map (λ p. CrashStep p.0 p.1) (cluster_and_place (codes "crash:") (codes "step:") text))
    (option_or (option_map (λ p. DiskAt p.0 p.1) (cluster_and_place (codes "disk:") [] text))
    (option_map (λ p. ReturnAt p.0 p.1) (cluster_and_place (codes "return:") (codes "bus:") text))))

-- the script words that texts are, where each is one
abbrev pub script_words : List (List ℕ) → Option (List ScriptWord)
script_words [] = Some []
script_words (text ∷ texts) = option_and_then (λ word. option_map (λ words. word ∷ words) (script_words texts)) (script_word text)

-- a script has 32 words at most
abbrev pub is_script : List ScriptWord → Bool
is_script words = nat_le (length words) 32

abbrev pub checked : List ScriptWord → Option (List ScriptWord)
checked words = if is_script words then Some words else None

-- the script that texts are
abbrev pub script_of : List (List ℕ) → Option (List ScriptWord)
script_of texts = option_and_then checked (script_words texts)

-- ---- whether a system has the clusters of a script

-- a crash or a return is of one of the system's clusters, and a call of a page disk of one of its two page servers
abbrev pub is_allowed : ℕ → ClusterNo × ClusterNo → ScriptWord → Bool
is_allowed clusters pager (CrashAt k place) = nat_lt k.0 clusters
is_allowed clusters pager (CrashStep k step) = nat_lt k.0 clusters
is_allowed clusters pager (DiskAt k call) = (k.0 == (pager.0).0) || (k.0 == (pager.1).0)
is_allowed clusters pager (ReturnAt k place) = nat_lt k.0 clusters

abbrev pub are_allowed : ℕ → ClusterNo × ClusterNo → List ScriptWord → Bool
are_allowed clusters pager script = list_all (is_allowed clusters pager) script
