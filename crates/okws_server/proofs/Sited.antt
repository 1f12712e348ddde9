-- The drill's site is a configuration.
use Rattle.std.proofs.Common.{◌≡◌, ◌∙◌, Bool, true, false, refl, sym, ap, Result}
use Rattle.std.specs.Prelude.{Ok, Err}
use Rattle.std.specs.Char.{encode_utf8}
use Rattle.std.specs.Str.{chars, is_utf8}
use Rattle.okws_plan.specs.declared.configuration.Config.{Config}
use Rattle.query_syntax.specs.Grammar.{delete_at, form_at, insert_at, limit_at, more_at, order_at, parsed, select_at, setting_at, test_at, update_at, where_at}
use Rattle.query_syntax.specs.Spelling.{fixed_text}
use Rattle.query_syntax.specs.Tokens.{keyword, token_at}
use Rattle.statement_core.specs.Resolving.{judged_on, on_table}
use Rattle.config_syntax.specs.Literals.{literals}
use Rattle.config_reader.specs.After.{declared, with_plan}
use Rattle.config_reader.specs.Broken.{can_hold, has_bad_row_name, has_bad_table_name, has_too_many_queries, has_too_many_tables, statement_at, takes_query, takes_table}
use Rattle.config_reader.specs.Meaning.{meaning}
use Rattle.config_reader.specs.declared.error.Refusal.{Refusal}
use Rattle.play_script.specs.Site.{is_drilled_site}
use Rattle.play_script.specs.declared.site.TheConstants.{SITE}

-- what is read is a site of drills
abbrev is_sited : Result Config Refusal → Bool
is_sited (Ok C) = is_drilled_site C
is_sited (Err refusal) = false

sited : is_sited (meaning SITE.now) ≡ true
unfolding encode_utf8 chars is_utf8 delete_at form_at insert_at limit_at more_at order_at parsed select_at setting_at test_at update_at where_at fixed_text keyword token_at judged_on on_table literals declared with_plan can_hold has_bad_row_name has_bad_table_name has_too_many_queries has_too_many_tables statement_at takes_query takes_table
sited = refl

pub site_drilled : (C : Config) → meaning SITE.now ≡ Ok C → is_drilled_site C ≡ true
site_drilled C e = ap is_sited (sym e) ∙ sited

pub site_not_refused : (refusal : Refusal) → meaning SITE.now ≡ Err refusal → ⊥
site_not_refused refusal e = let no : false ≡ true = ap is_sited (sym e) ∙ sited in cc
