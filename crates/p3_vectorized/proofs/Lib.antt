mod EntryCalls
