-- Public vocabulary: the metrics of a head end in Prometheus' text format (exposition format 0.0.4), a whole page. Each metric has a line of help
-- and one of its type, and its samples stand behind these, each a line: its name, its labels in braces, and its value in decimal.
use Rattle.std.specs.Prelude.{ℕ, ◌==◌, if◌then◌else◌, List, [], ◌++◌, chars, codes, decimal, encode_utf8, flat_map}
use Rattle.fw_status.specs.declared.campaign.CampaignStatus.{CampaignStatus}
use Rattle.fw_events.specs.declared.figures.Figures.{Figures}

-- ---- the lines

-- the value of a label: a backslash stands before a backslash and a quote, and a line feed is a backslash and an n
abbrev pub escaped_char : ℕ → List ℕ
escaped_char c = if c == 92 then codes "\\\\" else (if c == 34 then codes "\\\"" else (if c == 10 then codes "\\n" else encode_utf8 c))

abbrev pub escaped : List ℕ → List ℕ
escaped value = flat_map escaped_char (chars value)

abbrev pub heading : List ℕ → List ℕ → List ℕ → List ℕ
heading name help kind =
    codes "# HELP " ++ (name ++ (codes " " ++ (help ++ (codes "\n# TYPE " ++ (name ++ (codes " " ++ (kind ++ codes "\n")))))))

-- of a head end, with labels besides, each behind a comma
abbrev pub sample : List ℕ → ℕ → List ℕ → ℕ → List ℕ
sample name head labels value =
    name ++ (codes "{head=\"" ++ (decimal head ++ (codes "\"" ++ (labels ++ (codes "} " ++ (decimal value ++ codes "\n"))))))

-- how many rows of a campaign are in this state
abbrev pub row_sample : ℕ → ℕ → List ℕ → ℕ → List ℕ
row_sample head serial state value =
    codes "dlmsfw_rows{head=\"" ++ (decimal head ++ (codes "\",campaign=\"" ++ (decimal serial ++ (codes "\",state=\"" ++ (state
    ++ (codes "\"} " ++ (decimal value ++ codes "\n")))))))

abbrev pub book_label : ℕ → List ℕ
book_label head = codes "dlmsfw_book_info{head=\"" ++ (decimal head ++ codes "\",book=\"")

-- the head end has the book at this path
abbrev pub book_sample : ℕ → List ℕ → List ℕ
book_sample head book = book_label head ++ (escaped book ++ codes "\"} 1\n")

-- ---- the metrics

abbrev pub book_family : ℕ → List ℕ → List ℕ
book_family head book = heading (codes "dlmsfw_book_info") (codes "The book of a head end.") (codes "gauge") ++ book_sample head book

abbrev pub campaign_samples : ℕ → CampaignStatus → List ℕ
campaign_samples head campaign =
    row_sample head campaign.name.campaign.serial (codes "live") campaign.live
    ++ (row_sample head campaign.name.campaign.serial (codes "done") campaign.done
    ++ (row_sample head campaign.name.campaign.serial (codes "failed") campaign.failed
    ++ row_sample head campaign.name.campaign.serial (codes "cancelled") campaign.cancelled))

-- the campaigns in the order given
abbrev pub rows_family : ℕ → List CampaignStatus → List ℕ
rows_family head campaigns =
    heading (codes "dlmsfw_rows") (codes "Rows of a campaign by state.") (codes "gauge")
    ++ flat_map (λ (campaign : CampaignStatus). campaign_samples head campaign) campaigns

abbrev pub datagrams_family : ℕ → ℕ → ℕ → List ℕ
datagrams_family head sent received =
    heading (codes "dlmsfw_datagrams_total") (codes "Datagrams to and from meters of the list.") (codes "counter")
    ++ (sample (codes "dlmsfw_datagrams_total") head (codes ",direction=\"sent\"") sent
    ++ sample (codes "dlmsfw_datagrams_total") head (codes ",direction=\"received\"") received)

-- a counter with one sample
abbrev pub counter_family : List ℕ → List ℕ → ℕ → ℕ → List ℕ
counter_family name help head value = heading name help (codes "counter") ++ sample name head [] value

-- what a head end counted since it began
abbrev pub counters : ℕ → Figures → List ℕ
counters head figures =
    datagrams_family head figures.sent figures.received
    ++ (counter_family (codes "dlmsfw_resends_total") (codes "Rows asked again since no answer came.") head figures.resends
    ++ (counter_family (codes "dlmsfw_strangers_total") (codes "Datagrams from addresses that are not in the list.") head figures.strangers
    ++ (counter_family (codes "dlmsfw_unopened_total") (codes "Datagrams of sealed links that did not open.") head figures.unopened
    ++ counter_family (codes "dlmsfw_socket_faults_total") (codes "Failures of the socket.") head figures.faults)))

abbrev pub metrics_page : ℕ → List ℕ → List CampaignStatus → Figures → List ℕ
metrics_page head book campaigns figures = book_family head book ++ (rows_family head campaigns ++ counters head figures)
